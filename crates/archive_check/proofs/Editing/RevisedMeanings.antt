-- A write over a leaf of an accepted buffer changes its meaning in that leaf alone.
use Rattle.std.proofs.Common.{◌≡◌, ℕ, ◌+◌, List, [], length, Option, Some, None, nat_cmp, arith, refl, sym, ◌∙◌}
use Rattle.std.specs.FinMap.{get, empty, get-empty}
use Rattle.archive_check.specs.Shape.{Shape}
use Rattle.archive_check.specs.Layout.{size_of}
use Rattle.archive_check.specs.Value.{Value, pointers}
use Rattle.archive_check.specs.Reads.{SchemaTable, LaidOut, Reads}
use Rattle.archive_check.specs.Tour.{root_region, Rising, Contents, Entry, Accepted}
use Rattle.archive_check.specs.Leaves.{PlacedLeaf, leaf_begin, leaves, leaves_of_tour, leaves_of, IsFree, edit, Overwrites, Replaced, StillAccepted}
use Rattle.archive_check.specs.Denotes.{Meaning, Fills, IsSharedValue, Denotes}
use Rattle.archive_check.specs.Revised.{Revised, revised_value, revised_shared}
use Rattle.archive_check.proofs.Tours.ReadingUnique.{reads_one, contents_one_value}
use Rattle.archive_check.proofs.Meanings.MeaningUnique.{fills_one, values_one, tours_one}
use Rattle.archive_check.proofs.Tours.JoinedTours.{rising_front}
use Rattle.archive_check.proofs.Tours.RegionsApart.{Between, leaves_between, tour_between}
use Rattle.archive_check.proofs.Tours.EqualBytes.{reads_agree}
use Rattle.archive_check.proofs.Editing.EditedBytes.{Edits, edit_edits}
use Rattle.archive_check.proofs.Editing.EditedArchives.{replaced_has, Split, in_first, in_later, split, overwrites_size, renewed, leaf_fits, accepted_renewed}
use Rattle.archive_check.proofs.Editing.RevisedValues.{Same, Turned, fill_same, fill_turned, fill_altered}
use Rattle.archive_check.proofs.Maps.KeptOrder.{StaysOrdered, free_keeps}
use Rattle.archive_check.proofs.Editing.RevisedTour.{SameAt, TurnedAt, Known, stay_before, tour_same, Outcome, outcome_turned, outcome_shared, tour_turns}

-- what the map of shared values has at a position that is known
map_has : (s : SchemaTable) (bytes : List ℕ) (t : ℕ) (e : Entry) (v w : Value) (k : Option Entry) (f : Option (Entry × Value)) → k ≡ Some e → Contents s bytes t e.pointee e.length v → Fills s bytes v w → IsSharedValue s bytes t k f → f ≡ Some (e, w)
map_has s bytes t e v w None f g c h known = cc
map_has s bytes t e v w (Some d) f g c h (a, z, i, j, eq) =
    let same : e ≡ d = cc in
    let value : v ≡ a = contents_one_value (rw same at c) i in
    let filled : z ≡ w = fills_one s bytes j (rw value at h) in eq ∙ cc (same, filled)

module _ (s : SchemaTable) (laid : LaidOut s) (bytes new b : List ℕ) (x y : PlacedLeaf) (o : Overwrites b x y) (d : Edits bytes new (leaf_begin x) b) {root : ℕ} {X : Shape} (a : Accepted s bytes root X) (free : IsFree a x) where
  stays : StaysOrdered new a.tour
  stays = free_keeps bytes new b x d (overwrites_size o) a.tour free

  -- what is read at the root now, and what is turned
  data AtRoot : Type 0 where
    root_turned : {u : Value} → Reads s new root X u → Turned s bytes new x y a.value u → Known s laid bytes new b x y o d None a.seen → AtRoot
    root_same : {t : ℕ} {e : Entry} → Reads s new root X a.value → Same s bytes new x y a.value → get a.seen t ≡ Some e → TurnedAt s laid bytes new b x y o d t e → Known s laid bytes new b x y o d (Some t) a.seen → AtRoot

  none_known : Known s laid bytes new b x y o d None empty
  none_known t e g other = cc (get-empty {X = Entry} nat_cmp t)

  at_root : {ms : List PlacedLeaf} → Replaced x y (leaves_of a) ms → AtRoot
  at_root {ms} k = go (split (leaves_of_tour a.tour) k)
    where
      front : Rising 0 a.regions root
      front = rising_front 0 a.regions (root_region s root X) [] (length bytes) a.rising

      by_outcome : Reads s new root X a.value → Outcome s laid bytes new b x y o d (pointers a.value) empty a.seen → AtRoot
      by_outcome r (outcome_turned h f) = root_turned r (fill_turned s bytes new x y a.value h) (f None none_known)
      by_outcome r (outcome_shared h has turns f) = root_same r (fill_same s bytes new x y a.value h) has turns (f none_known)

      go : Split x y (leaves_of_tour a.tour) (leaves a.flat.reads) ms → AtRoot
      go (in_first {ns = zs} l f) =
          let there : Between 0 root x = replaced_has (Between 0 root) l (tour_between s laid bytes a.tour 0 root front) in
          by_outcome ((reads_agree bytes new s laid a.flat.reads (d.behind root (size_of s.layouts X) (omega (arith, there, overwrites_size o)))).0) (tour_turns s laid bytes new b x y o d a.tour stays 0 root front l)
      go (in_later {ns = zs} l f) =
          let there : Between root (root + size_of s.layouts X) x = replaced_has (Between root (root + size_of s.layouts X)) l (leaves_between s laid bytes a.flat.reads) in
          let q = renewed s laid bytes new b a.flat.reads l o d in
          let i = tour_same s laid bytes new b x y o d a.tour stays 0 root front (stay_before s laid bytes new b x y o d 0 root (omega arith) (omega arith)) in
          root_turned q.reads (fill_altered s bytes new x y q.altered (i.0)) (i.1 None none_known)

  -- the map of shared values has the same at a position as before
  map_same : (t : ℕ) (k : Option Entry) (f g : Option (Entry × Value)) → IsSharedValue s bytes t k f → IsSharedValue s new t k g → ((e : Entry) → k ≡ Some e → SameAt s laid bytes new b x y o d t e) → g ≡ f
  map_same t None f g h i same = i ∙ sym h
  map_same t (Some e) f g h i same =
      let (v, w, c, j, l, m) = same e refl in
      map_has s new t e v w (Some e) g refl l m i ∙ sym (map_has s bytes t e v w (Some e) f refl c j h)

  pub revises : {ms : List PlacedLeaf} → Replaced x y (leaves_of a) ms → {m n : Meaning} → Denotes s bytes root X m → Denotes s new root X n → Revised x y m n
  revises {ms} k {m} {n} h i = go (at_root k)
    where
      still : StillAccepted s bytes new root X a ms
      still = accepted_renewed s laid bytes new b a free k o d

      before : (t : ℕ) → IsSharedValue s bytes t (get a.seen t) (get m.shared t)
      before t = rw ((tours_one s bytes a h.accepted).1) at (h.shared t)

      now : (t : ℕ) → IsSharedValue s new t (get a.seen t) (get n.shared t)
      now t = rw ((tours_one s new still.after i.accepted).1 ∙ still.seen) at (i.shared t)

      old_root : Fills s bytes a.value m.value
      old_root = rw (values_one s bytes a h.accepted) at h.root_value

      new_root : {u : Value} → Reads s new root X u → Fills s new u n.value
      new_root r = rw (reads_one s new i.accepted.flat.reads r) at i.root_value

      go : AtRoot → Revised x y m n
      go (root_turned r (w, z, f, g, turns) known) =
          let old : m.value ≡ w = fills_one s bytes old_root f in let now_is : n.value ≡ z = fills_one s new (new_root r) g in
          revised_value (rw (old, now_is) turns) (λ t. map_same t (get a.seen t) (get m.shared t) (get n.shared t) (before t) (now t) (λ e g. known t e g (λ q. cc q)))
      go (root_same {t = t} {e = e} r (w, f, g) has (v, u, c, l, (p, q, j, fn, turns)) known) =
          let old : m.value ≡ w = fills_one s bytes old_root f in let now_is : n.value ≡ w = fills_one s new (new_root r) g in
          revised_shared (now_is ∙ sym old) (map_has s bytes t e v p (get a.seen t) (get m.shared t) has c j (before t)) (map_has s new t e u q (get a.seen t) (get n.shared t) has l fn (now t)) turns
          (λ z other. map_same z (get a.seen z) (get m.shared z) (get n.shared z) (before z) (now z) (λ e g. known z e g (λ eq. other (cc eq))))

pub edit_revises : (s : SchemaTable) (laid : LaidOut s) (bytes : List ℕ) {root : ℕ} {X : Shape} (a : Accepted s bytes root X) {b : List ℕ} {x y : PlacedLeaf} {ms : List PlacedLeaf} → IsFree a x → Replaced x y (leaves_of a) ms → (o : Overwrites b x y)
    → {m n : Meaning} → Denotes s bytes root X m → Denotes s (edit bytes (leaf_begin x) b) root X n → Revised x y m n
edit_revises s laid bytes a {b} {x} {y} free k o h i =
    revises s laid bytes (edit bytes (leaf_begin x) b) b x y o (edit_edits bytes (leaf_begin x) b (omega (arith, leaf_fits s laid bytes a k, overwrites_size o))) a free k h i
