-- Where the bytes read, their pointers have a tour and its regions rise, the walk exists.
use Rattle.std.proofs.Common.{ℕ, List, [], ◌∷◌, ◌++◌, ◌+◌, suc, Option}
use Rattle.archive_check.specs.Shape.{Shape, Key, Parts, Pointee}
use Rattle.archive_check.specs.Value.{Pointer, Value, Values, pointers, all_pointers}
use Rattle.archive_check.specs.Reads.{SchemaTable, Reads, reads_leaf, reads_parts, reads_choice, reads_array, reads_boxed, reads_vec, reads_map, reads_inline, reads_out_of_line, reads_shared, reads_null, reads_weak, reads_named, ReadsParts, reads_no_part, reads_part, ReadsRun, reads_none, reads_element}
use Rattle.archive_check.specs.Tour.{Region, Rising, Seen, Contents, contents_one, contents_run, contents_text, Leads, Tour, tour_end, tour_unique, tour_new, tour_again, region_of}
use Rattle.archive_check.specs.Walk.{Walk, walk_leaf, walk_parts, walk_choice, walk_array, walk_boxed, walk_vec, walk_map, walk_inline, walk_out_of_line, walk_shared, walk_null, walk_weak, walk_named, WalkParts, walk_no_part, walk_part, WalkRun, walk_none, walk_element, Follow, follow_unique, follow_new, follow_again, Enter, enter, WalkContents, walk_one, walk_run, walk_entries, walk_text}
use Rattle.archive_check.specs.Keys.{order_of, IsInOrder, in_any_order, in_key_order}
use Rattle.archive_check.specs.Depth.{Allows, inside, nesting}
use Rattle.archive_check.proofs.Checks.Depths.{allows_first, allows_inner, allows_later}
use Rattle.archive_check.proofs.Tours.JoinedTours.{end_of, rising_le, rising_front, rising_aligned, rising_back, end_of-append}
use Rattle.archive_check.proofs.Checks.Walks.{Tours}

-- the pointers are followed one after another
pub data FollowsEach (s : SchemaTable) (bytes : List ℕ) : List ℕ → Option ℕ → ℕ → List Pointer → ℕ → Seen → ℕ → Seen → Type 0 where
  follows_none : {pending : List ℕ} {depth : Option ℕ} {stop a : ℕ} {l : Seen} → FollowsEach s bytes pending depth stop [] a l a l
  follows : {pending : List ℕ} {depth : Option ℕ} {stop a b c : ℕ} {l m n : Seen} {p : Pointer} {O : List Pointer}
      → Follow s bytes pending depth stop p a l b m
      → FollowsEach s bytes pending depth stop O b m c n
      → FollowsEach s bytes pending depth stop (p ∷ O) a l c n

-- the first pointers are followed, and then the others
record Split (s : SchemaTable) (bytes : List ℕ) (pending : List ℕ) (depth : Option ℕ) (stop : ℕ) (O P : List Pointer) (a : ℕ) (l : Seen) (c : ℕ) (n : Seen) : Type 0 where
  at : ℕ
  known : Seen
  first : FollowsEach s bytes pending depth stop O a l at known
  then : FollowsEach s bytes pending depth stop P at known c n

module _ (s : SchemaTable) (bytes : List ℕ) where
  split : {pending : List ℕ} {depth : Option ℕ} {stop : ℕ} (O : List Pointer) {P : List Pointer} {a c : ℕ} {l n : Seen} → FollowsEach s bytes pending depth stop (O ++ P) a l c n → Split s bytes pending depth stop O P a l c n
  split [] w = record { at = _; known = _; first = follows_none; then = w }
  split (p ∷ O) (follows f w) = let r = split O w in record { at = r.at; known = r.known; first = follows f r.first; then = r.then }

  -- a pointer that stands alone
  alone : {pending : List ℕ} {depth : Option ℕ} {stop a b : ℕ} {l m : Seen} {p : Pointer} → FollowsEach s bytes pending depth stop (p ∷ []) a l b m → Follow s bytes pending depth stop p a l b m
  alone (follows f follows_none) = f

  mutual
    walk_of : {pending : List ℕ} {depth : Option ℕ} {stop p a b : ℕ} {X : Shape} {v : Value} {l m : Seen} → Reads s bytes p X v → FollowsEach s bytes pending depth stop (pointers v) a l b m → Walk s bytes pending depth stop p X a l b m
    walk_of (reads_leaf h) follows_none = walk_leaf h
    walk_of (reads_parts r) w = walk_parts (walk_of_parts r w)
    walk_of (reads_choice e r) w = walk_choice e (walk_of_parts r w)
    walk_of (reads_array r) w = walk_array (walk_of_run r w)
    walk_of reads_boxed w = walk_boxed (alone w)
    walk_of reads_vec w = walk_vec (alone w)
    walk_of reads_map w = walk_map (alone w)
    walk_of (reads_inline o h) follows_none = walk_inline o h
    walk_of (reads_out_of_line o h) w = walk_out_of_line o h (alone w)
    walk_of reads_shared w = walk_shared (alone w)
    walk_of (reads_null e) follows_none = walk_null e
    walk_of (reads_weak e) w = walk_weak e (alone w)
    walk_of (reads_named d r) w = walk_named d (walk_of r w)

    walk_of_parts : {pending : List ℕ} {depth : Option ℕ} {stop p at a b : ℕ} {ps : Parts} {vs : Values} {l m : Seen} → ReadsParts s bytes p at ps vs → FollowsEach s bytes pending depth stop (all_pointers vs) a l b m → WalkParts s bytes pending depth stop p at ps a l b m
    walk_of_parts reads_no_part follows_none = walk_no_part
    walk_of_parts (reads_part {v = v} r rs) w = let q = split (pointers v) w in walk_part (walk_of r q.first) (walk_of_parts rs q.then)

    walk_of_run : {pending : List ℕ} {depth : Option ℕ} {stop p k a b : ℕ} {X : Shape} {vs : Values} {l m : Seen} → ReadsRun s bytes p k X vs → FollowsEach s bytes pending depth stop (all_pointers vs) a l b m → WalkRun s bytes pending depth stop p k X a l b m
    walk_of_run reads_none follows_none = walk_none
    walk_of_run (reads_element {v = v} r rs) w = let q = split (pointers v) w in walk_element (walk_of r q.first) (walk_of_run rs q.then)

  pub walk_of_contents : {pending : List ℕ} {depth : Option ℕ} {stop t k a b : ℕ} {o : Option Key} {P : Pointee} {v : Value} {l m : Seen} → Contents s bytes t P k v → IsInOrder s bytes t k o P → FollowsEach s bytes pending depth stop (pointers v) a l b m → WalkContents s bytes pending depth stop t o P k a l b m
  walk_of_contents (contents_one r) in_any_order w = walk_one (walk_of r w)
  walk_of_contents (contents_run r) in_any_order w = walk_run (walk_of_run r w)
  walk_of_contents (contents_run r) (in_key_order h) w = walk_entries (walk_of_run r w) h
  walk_of_contents (contents_text u) in_any_order follows_none = walk_text u

  -- a region of a rising list is entered
  entered : {pending : List ℕ} {depth : Option ℕ} {stop a t : ℕ} {p : Pointer} {v : Value} {l m : Seen} (C D : List Region) → Leads s bytes p t v → Rising a (C ++ region_of s p t ∷ D) stop → Allows depth 1
      → WalkContents s bytes pending (inside depth) t t (order_of p) p.pointee p.length a l (end_of a C) m
      → Enter s bytes pending depth stop p t a l (t + (region_of s p t).size) m
  entered {stop = stop} {a = a} {t = t} {p = p} C D h rising room w =
      let front : Rising a C t = rising_front a C (region_of s p t) D stop rising in
      let back = rising_back a C (region_of s p t) D stop rising in
      enter h.target (rising_le a C t front) (rising_le _ D stop back) (rising_aligned a C (region_of s p t) D stop rising) room w

  pub follows_of : {pending : List ℕ} {depth : Option ℕ} {stop a : ℕ} {O : List Pointer} {C : List Region} {l m : Seen} → (i : Tour s bytes pending l O C m) → Rising a C stop → Allows depth (nesting i) → FollowsEach s bytes pending depth stop O a l (end_of a C) m
  follows_of tour_end rising room = follows_none
  follows_of {depth = depth} {stop = stop} {a = a} (tour_unique {p = p} {t = t} {C = C} {D = D} e h i j) rising room =
      rw (end_of-append a C (region_of s p t) D)
      (follows (follow_unique e (entered C D h rising (allows_first depth (nesting i) (nesting j) room) (walk_of_contents h.contents h.ordered (follows_of i (rising_front a C (region_of s p t) D stop rising) (allows_inner depth (nesting i) (nesting j) room)))))
      (follows_of j (rising_back a C (region_of s p t) D stop rising) (allows_later depth (suc (nesting i)) (nesting j) room)))
  follows_of {depth = depth} {stop = stop} {a = a} (tour_new {p = p} {t = t} {C = C} {D = D} e none h i j) rising room =
      rw (end_of-append a C (region_of s p t) D)
      (follows (follow_new e none (entered C D h rising (allows_first depth (nesting i) (nesting j) room) (walk_of_contents h.contents h.ordered (follows_of i (rising_front a C (region_of s p t) D stop rising) (allows_inner depth (nesting i) (nesting j) room)))))
      (follows_of j (rising_back a C (region_of s p t) D stop rising) (allows_later depth (suc (nesting i)) (nesting j) room)))
  follows_of (tour_again e t known free j) rising room = follows (follow_again e t known free) (follows_of j rising room)

  -- so the walk exists
  pub found_walks : {pending : List ℕ} {depth : Option ℕ} {stop p a b : ℕ} {X : Shape} {v : Value} {l m : Seen} → Reads s bytes p X v → Tours s bytes pending depth stop (pointers v) a l b m → Walk s bytes pending depth stop p X a l b m
  found_walks {pending} {depth} {stop} {p} {a} {b} {X} {v} {l} {m} r h =
      let w : FollowsEach s bytes pending depth stop (pointers v) a l b m = rw h.ends at (follows_of h.tour h.rising h.nests) in walk_of r w
