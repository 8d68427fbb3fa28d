-- What a unique pointer leads to ends by the position of its owner, so that following such pointers ends.
use Rattle.std.proofs.Common.{◌≡◌, ℕ, ◌+◌, ◌≤◌, pos, List, [], ◌∷◌, length, None, Contains, All, arith, sym, ◌∙◌}
use Rattle.std.proofs.lemmas.List.Elements.{All-nil, All-cons, All-append, All-contains}
use Rattle.archive_check.specs.Shape.{Shape, Pointee}
use Rattle.archive_check.specs.Value.{Pointer, Value, pointers}
use Rattle.archive_check.specs.Reads.{SchemaTable, LaidOut}
use Rattle.archive_check.specs.Tour.{Region, region_of, root_region, pointee_size, Rising, Contents, contents_one, Leads, Seen, Tour, tour_end, tour_unique, tour_new, tour_again, Accepted}
use Rattle.archive_check.specs.Leaves.{regions_of}
use Rattle.archive_check.specs.Within.{PartOfRegion, whole_region, in_one, in_run, in_string}
use Rattle.archive_check.specs.Viewed.{Lies}
use Rattle.archive_check.proofs.Meanings.ReachedParts.{part_of_reads}
use Rattle.archive_check.proofs.Tours.JoinedTours.{rising_front, rising_back, rising_le}
use Rattle.archive_check.proofs.Tours.ReadingUnique.{contents_one_value, pos_one}
use Rattle.archive_check.proofs.Tours.PartsInside.{within_inside}

-- the pointer, where it is unique, leads to what ends by this position
pub record EndsBy (s : SchemaTable) (stop : ℕ) (p : Pointer) : Type 0 where
  pub ends : (t : ℕ) → p.sharing ≡ None → p.target ≡ pos t → t + pointee_size s p.pointee p.length ≤ stop

module _ (s : SchemaTable) (bytes : List ℕ) where
  -- what is read in the region leads, uniquely, to what ends by its begin
  abbrev Owns : Region → Type 0
  Owns r = (v : Value) × Contents s bytes r.begin r.pointee r.length v × All (EndsBy s r.begin) (pointers v)

  ends_by : {p : Pointer} {t : ℕ} {v : Value} (stop : ℕ) → Leads s bytes p t v → t + pointee_size s p.pointee p.length ≤ stop → EndsBy s stop p
  ends_by {t = t} stop l h = record { ends = λ u unique there. let same : pos u ≡ pos t = sym there ∙ l.target in let here : u ≡ t = pos_one same in omega (arith, here, h) }

  not_unique : {p : Pointer} {stop : ℕ} → (p.sharing ≡ None → ⊥) → EndsBy s stop p
  not_unique never = record { ends = λ t unique there. absurd (never unique) }

  tour_before : {pending : List ℕ} {seen last : Seen} {O : List Pointer} {C : List Region} (start stop : ℕ) → Tour s bytes pending seen O C last → Rising start C stop → All (EndsBy s stop) O × All Owns C
  tour_before start stop tour_end h = (All-nil (EndsBy s stop), All-nil Owns)
  tour_before start stop (tour_unique {p = p} {ps = ps} {t = t} {v = v} {C = C} {D = D} e l i j) h =
      let r = region_of s p t in
      let back : Rising (r.begin + r.size) D stop = rising_back start C r D stop h in
      let inner = tour_before start t i (rising_front start C r D stop h) in
      let outer = tour_before (r.begin + r.size) stop j back in (
        All-cons (EndsBy s stop) p ps (ends_by stop l (rising_le (r.begin + r.size) D stop back)) (outer.0),
        All-append Owns C (r ∷ D) (inner.1) (All-cons Owns r D (v, l.contents, inner.0) (outer.1)),
      )
  tour_before start stop (tour_new {p = p} {ps = ps} {t = t} {v = v} {C = C} {D = D} e none l i j) h =
      let r = region_of s p t in
      let back : Rising (r.begin + r.size) D stop = rising_back start C r D stop h in
      let inner = tour_before start t i (rising_front start C r D stop h) in
      let outer = tour_before (r.begin + r.size) stop j back in (
        All-cons (EndsBy s stop) p ps (not_unique (λ unique. cc)) (outer.0),
        All-append Owns C (r ∷ D) (inner.1) (All-cons Owns r D (v, l.contents, inner.0) (outer.1)),
      )
  tour_before start stop (tour_again {p = p} {ps = ps} e t known free j) h =
      let rest = tour_before start stop j h in (All-cons (EndsBy s stop) p ps (not_unique (λ unique. cc)) (rest.0), rest.1)

  accepted_before : {root : ℕ} {X : Shape} (a : Accepted s bytes root X) → All Owns (regions_of a)
  accepted_before {root = root} {X = X} a =
      let r = root_region s root X in
      let own = tour_before 0 root a.tour (rising_front 0 a.regions r [] (length bytes) a.rising) in
      All-append Owns a.regions (r ∷ []) (own.1) (All-cons Owns r [] (a.value, contents_one a.flat.reads, own.0) (All-nil Owns))

  -- a part lies where its region begins, or behind
  pub part_after : LaidOut s → {r : Region} {q : ℕ} {P : Pointee} {n : ℕ} → PartOfRegion s bytes r q P n → r.begin ≤ q
  part_after laid whole_region = omega arith
  part_after laid (in_one e w) = omega (arith, within_inside s laid w)
  part_after laid (in_run e below w) = omega (arith, within_inside s laid w)
  part_after laid (in_string i inline) = part_after laid i

  -- what a unique pointer that is read at a part leads to ends by the part's position
  pub lies_before : LaidOut s → {q n t : ℕ} {P : Pointee} {v : Value} {p : Pointer} → Lies s bytes q P n → Contents s bytes q P n v → Contains (pointers v) p → p.sharing ≡ None → p.target ≡ pos t
      → t + pointee_size s p.pointee p.length ≤ q
  lies_before laid {t = t} {v = v} {p = p} l c h unique there =
      let (r, d, i) = l.part in
      let (u, k, ends) = All-contains Owns (regions_of l.accepted) r (accepted_before l.accepted) d in
      let (w, m, f) = part_of_reads s bytes i k in
      let same : v ≡ w = contents_one_value c m in
      let found = All-contains (EndsBy s r.begin) (pointers u) p ends (f p (rw same at h)) in
      omega (arith, found.ends t unique there, part_after laid i)
