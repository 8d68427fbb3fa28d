-- The walk exists exactly where the bytes read, their pointers have a tour, and its regions rise.
use Rattle.std.proofs.Common.{◌≡◌, ℕ, refl, List, [], ◌∷◌, ◌++◌, ◌+◌, ◌≤◌, length, Option, None, suc, arith, sym, ap, ◌∙◌}
use Rattle.archive_check.specs.Shape.{Shape, Key, Parts, Pointee}
use Rattle.archive_check.specs.Value.{Pointer, Value, Values, pointers, all_pointers}
use Rattle.archive_check.specs.Reads.{SchemaTable, Reads, reads_leaf, reads_parts, reads_choice, reads_array, reads_boxed, reads_vec, reads_map, reads_inline, reads_out_of_line, reads_shared, reads_null, reads_weak, reads_named, ReadsParts, reads_no_part, reads_part, ReadsRun, reads_none, reads_element}
use Rattle.archive_check.specs.Tour.{Region, Rising, Seen, Contents, contents_one, contents_run, contents_text, Leads, Tour, tour_end, tour_unique, tour_new, tour_again, region_of}
use Rattle.archive_check.specs.Walk.{Walk, walk_leaf, walk_parts, walk_choice, walk_array, walk_boxed, walk_vec, walk_map, walk_inline, walk_out_of_line, walk_shared, walk_null, walk_weak, walk_named, WalkParts, walk_no_part, walk_part, WalkRun, walk_none, walk_element, Follow, follow_unique, follow_new, follow_again, Enter, enter, WalkContents, walk_one, walk_run, walk_entries, walk_text}
use Rattle.archive_check.specs.Keys.{IsInOrder, in_any_order, in_key_order}
use Rattle.archive_check.specs.Depth.{Allows, nesting}
use Rattle.archive_check.proofs.Checks.Depths.{allows_zero, allows_max, allows_deeper}
use Rattle.archive_check.proofs.Tours.JoinedTours.{end_of, rising_append, end_of-append, end_of-join, rising_end, rising_tight, tour_append}

-- from start on the pointers have a tour whose regions rise up to stop, the last one ending at later
pub record Tours (s : SchemaTable) (bytes : List ℕ) (pending : List ℕ) (depth : Option ℕ) (stop : ℕ) (O : List Pointer) (start : ℕ) (seen : Seen) (later : ℕ) (last : Seen) : Type 0 where
  pub regions : List Region
  pub tour : Tour s bytes pending seen O regions last
  pub rising : Rising start regions stop
  pub ends : end_of start regions ≡ later
  pub nests : Allows depth (nesting tour)

module _ (s : SchemaTable) (bytes : List ℕ) where
  tours_none : {pending : List ℕ} {depth : Option ℕ} {stop start : ℕ} {seen : Seen} → start ≤ stop → Tours s bytes pending depth stop [] start seen start seen
  tours_none h = record { regions = []; tour = tour_end; rising = h; ends = refl; nests = allows_zero _ }

  rising_join : (a : ℕ) (C D : List Region) (b c : ℕ) → Rising a C c → end_of a C ≡ b → Rising b D c → Rising a (C ++ D) c
  rising_join a C D b c h e k = rising_append a C b D c (rw e at (rising_tight a C c h)) k

  tours_append : {pending : List ℕ} {depth : Option ℕ} {stop a b c : ℕ} {l m n : Seen} {O P : List Pointer} → Tours s bytes pending depth stop O a l b m → Tours s bytes pending depth stop P b m c n → Tours s bytes pending depth stop (O ++ P) a l c n
  tours_append {depth = depth} {a = a} {b = b} h k = record {
    regions = h.regions ++ k.regions;
    tour = (tour_append s bytes h.tour k.tour).0;
    rising = rising_join a h.regions k.regions b _ h.rising h.ends k.rising;
    ends = end_of-join a h.regions k.regions ∙ ap (λ x. end_of x k.regions) h.ends ∙ k.ends;
    nests = rw ((tour_append s bytes h.tour k.tour).1) (allows_max depth (nesting h.tour) (nesting k.tour) h.nests k.nests);
  }

  tours_le : {pending : List ℕ} {depth : Option ℕ} {stop a b : ℕ} {l m : Seen} {O : List Pointer} → Tours s bytes pending depth stop O a l b m → b ≤ stop
  tours_le {a = a} h = rw h.ends at (rising_end a h.regions _ h.rising)

  -- what a walk finds: a value, and a tour of its pointers
  abbrev pub Finds : List ℕ → Option ℕ → ℕ → (Value → Type 0) → ℕ → Seen → ℕ → Seen → Type 0
  Finds pending depth stop R a l b m = (v : Value) × R v × Tours s bytes pending depth stop (pointers v) a l b m

  abbrev pub FindsAll : List ℕ → Option ℕ → ℕ → (Values → Type 0) → ℕ → Seen → ℕ → Seen → Type 0
  FindsAll pending depth stop R a l b m = (vs : Values) × R vs × Tours s bytes pending depth stop (all_pointers vs) a l b m

  -- what entering a region finds
  pub record Entered (pending : List ℕ) (depth : Option ℕ) (stop : ℕ) (p : Pointer) (t a : ℕ) (l : Seen) (b : ℕ) (m : Seen) : Type 0 where
    pub found : Value
    pub regions : List Region
    pub leads : Leads s bytes p t found
    pub tour : Tour s bytes pending l (pointers found) regions m
    pub rising : Rising a (regions ++ region_of s p t ∷ []) stop
    pub ends : b ≡ t + (region_of s p t).size
    pub nests : Allows depth (suc (nesting tour))

  unique_tours : {pending : List ℕ} {depth : Option ℕ} {stop a b t : ℕ} {l m : Seen} {p : Pointer} → p.sharing ≡ None → Entered pending depth stop p t a l b m → Tours s bytes pending depth stop (p ∷ []) a l b m
  unique_tours {depth = depth} {a = a} {t = t} {p = p} e h = record {
    regions = h.regions ++ region_of s p t ∷ [];
    tour = tour_unique e h.leads h.tour tour_end;
    rising = h.rising;
    ends = end_of-append a h.regions (region_of s p t) [] ∙ sym h.ends;
    nests = allows_max depth (suc (nesting h.tour)) 0 h.nests (allows_zero depth);
  }

  mutual
    pub walk_finds : {pending : List ℕ} {depth : Option ℕ} {stop p a b : ℕ} {X : Shape} {l m : Seen} → Walk s bytes pending depth stop p X a l b m → stop ≤ length bytes → a ≤ stop → Finds pending depth stop (Reads s bytes p X) a l b m
    walk_finds (walk_leaf h) f g = (_, reads_leaf h, tours_none g)
    walk_finds (walk_parts w) f g = let r = parts_find w f g in (_, reads_parts (r.1), r.2)
    walk_finds (walk_choice e w) f g = let r = parts_find w f g in (_, reads_choice e (r.1), r.2)
    walk_finds (walk_array w) f g = let r = run_finds w f g in (_, reads_array (r.1), r.2)
    walk_finds (walk_boxed w) f g = (_, reads_boxed, follow_tours w f g)
    walk_finds (walk_vec w) f g = (_, reads_vec, follow_tours w f g)
    walk_finds (walk_map w) f g = (_, reads_map, follow_tours w f g)
    walk_finds (walk_inline o h) f g = (_, reads_inline o h, tours_none g)
    walk_finds (walk_out_of_line o h w) f g = (_, reads_out_of_line o h, follow_tours w f g)
    walk_finds (walk_shared w) f g = (_, reads_shared, follow_tours w f g)
    walk_finds (walk_null e) f g = (_, reads_null e, tours_none g)
    walk_finds (walk_weak e w) f g = (_, reads_weak e, follow_tours w f g)
    walk_finds (walk_named d w) f g = let r = walk_finds w f g in (_, reads_named d (r.1), r.2)

    pub parts_find : {pending : List ℕ} {depth : Option ℕ} {stop p at a b : ℕ} {ps : Parts} {l m : Seen} → WalkParts s bytes pending depth stop p at ps a l b m → stop ≤ length bytes → a ≤ stop → FindsAll pending depth stop (ReadsParts s bytes p at ps) a l b m
    parts_find walk_no_part f g = (_, reads_no_part, tours_none g)
    parts_find (walk_part w ws) f g =
        let r = walk_finds w f g in let q = parts_find ws f (tours_le (r.2)) in
        (_, reads_part (r.1) (q.1), tours_append (r.2) (q.2))

    pub run_finds : {pending : List ℕ} {depth : Option ℕ} {stop p n a b : ℕ} {X : Shape} {l m : Seen} → WalkRun s bytes pending depth stop p n X a l b m → stop ≤ length bytes → a ≤ stop → FindsAll pending depth stop (ReadsRun s bytes p n X) a l b m
    run_finds walk_none f g = (_, reads_none, tours_none g)
    run_finds (walk_element w ws) f g =
        let r = walk_finds w f g in let q = run_finds ws f (tours_le (r.2)) in
        (_, reads_element (r.1) (q.1), tours_append (r.2) (q.2))

    pub follow_tours : {pending : List ℕ} {depth : Option ℕ} {stop a b : ℕ} {p : Pointer} {l m : Seen} → Follow s bytes pending depth stop p a l b m → stop ≤ length bytes → a ≤ stop → Tours s bytes pending depth stop (p ∷ []) a l b m
    follow_tours (follow_unique e w) f g = unique_tours e (enter_finds w f g)
    follow_tours (follow_new {depth = depth} {t = t} {p = p} e none w) f g = let h = enter_finds w f g in record {
      regions = h.regions ++ region_of s p t ∷ [];
      tour = tour_new e none h.leads h.tour tour_end;
      rising = h.rising;
      ends = end_of-append _ h.regions (region_of s p t) [] ∙ sym h.ends;
      nests = allows_max depth (suc (nesting h.tour)) 0 h.nests (allows_zero depth);
    }
    follow_tours (follow_again e t known free) f g = record { regions = []; tour = tour_again e t known free tour_end; rising = g; ends = refl; nests = allows_zero _ }

    pub enter_finds : {pending : List ℕ} {depth : Option ℕ} {stop t a b : ℕ} {p : Pointer} {l m : Seen} → Enter s bytes pending depth stop p t a l b m → stop ≤ length bytes → a ≤ stop → Entered pending depth stop p t a l b m
    enter_finds (enter {depth = depth} {t = t} {p = p} target above below aligned room w) f g =
        let r = contents_find w (omega arith) above in record {
          found = r.0;
          regions = r.2.regions;
          leads = record { target = target; fits = omega arith; contents = r.1.0; ordered = r.1.1 };
          tour = r.2.tour;
          rising = rising_append _ r.2.regions t (region_of s p t ∷ []) _ r.2.rising (omega arith, aligned, below);
          ends = refl;
          nests = allows_deeper depth (nesting r.2.tour) room r.2.nests;
        }

    pub contents_find : {pending : List ℕ} {depth : Option ℕ} {stop t n a b : ℕ} {o : Option Key} {P : Pointee} {l m : Seen} → WalkContents s bytes pending depth stop t o P n a l b m → stop ≤ length bytes → a ≤ stop
        → Finds pending depth stop (λ v. Contents s bytes t P n v × IsInOrder s bytes t n o P) a l b m
    contents_find (walk_one w) f g = let r = walk_finds w f g in (_, (contents_one (r.1), in_any_order), r.2)
    contents_find (walk_run w) f g = let r = run_finds w f g in (_, (contents_run (r.1), in_any_order), r.2)
    contents_find (walk_entries w h) f g = let r = run_finds w f g in (_, (contents_run (r.1), in_key_order h), r.2)
    contents_find (walk_text u) f g = (_, (contents_text u, in_any_order), tours_none g)
