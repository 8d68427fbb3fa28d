-- Where all flavors are as they should, so is each pointer that is read: where nothing is shared, or no flavor allows cycles, no open position is met.
use Rattle.std.proofs.Common.{◌≡◌, ◌∙◌, ⊎_elim, ℕ, zero, suc, List, [], ◌∷◌, Bool, true, false, not, ◌&&◌, Option, Some, None, is_some, IsTrue, All, Contains, arith, refl, sym}
use Rattle.std.proofs.Math.Logic.{∥∥₁_elim}
use Rattle.std.proofs.lemmas.List.Elements.{All-nil, All-cons, All-append, All-contains, Contains-push}
use Rattle.std.proofs.lemmas.Bool.{and_parts}
use Rattle.archive_check.specs.Shape.{Name, Key, leaf_key, str_key, entry_of, Flavor, Shape, Pointee, one, run, Parts, Variants, no_variant, variant, definition, variant_at}
use Rattle.archive_check.specs.Value.{Pointer, Value, Values, pointers, all_pointers}
use Rattle.archive_check.specs.Reads.{SchemaTable, pointer_at, map_at, string_at, Reads, reads_leaf, reads_parts, reads_choice, reads_array, reads_boxed, reads_vec, reads_map, reads_inline, reads_out_of_line, reads_shared, reads_null, reads_weak, reads_named, ReadsParts, reads_no_part, reads_part, ReadsRun, reads_none, reads_element}
use Rattle.archive_check.specs.Tour.{Contents, contents_one, contents_run, contents_text, root_region, Accepted}
use Rattle.archive_check.specs.Definitions.{Definitions, listed, Has, Knows}
use Rattle.archive_check.specs.Pooled.{Entries}
use Rattle.archive_check.specs.Entries.{MeetsOpen, meets_open, meets_in_unique, meets_in_shared, IsCyclic}
use Rattle.archive_check.specs.Archives.{IsArchiveWithin}
use Rattle.archive_check.specs.Unshared.{has_flavors, pointee_has_flavors, parts_have_flavors, variants_have_flavors, IsAcyclic, IsNeverOpen}
use Rattle.archive_check.proofs.Names.WellFormed.{found_stands}
use Rattle.archive_check.proofs.Archives.{has_each}
use Rattle.archive_check.proofs.Viewing.Viewed.{root_lies}
use Rattle.archive_check.proofs.Tours.Seen.{same_some}
use Rattle.archive_check.proofs.Meanings.CalmArchives.{never_open}

pub found : {A : Type 0} (o : Option A) → IsTrue (is_some o) → (x : A) × (o ≡ Some x)
found None h = cc
found (Some x) h = (x, refl)

module _ (right : Flavor → Bool) (D : Definitions) (each : (name : Name) (Y : Shape) → Contains (listed D) (name, Y) → IsTrue (has_flavors right (listed D) Y)) (s : SchemaTable) (has : Has s D) (bytes : List ℕ) where
  -- the pointer has such a flavor, where it is shared, and so has all that it leads to
  abbrev pub Right : Pointer → Type 0
  Right p = ((flavor : Flavor) → p.sharing ≡ Some flavor → IsTrue (right flavor)) × IsTrue (pointee_has_flavors right (listed D) p.pointee)

  unique : (p : Pointer) → p.sharing ≡ None → IsTrue (pointee_has_flavors right (listed D) p.pointee) → Right p
  unique p e h = (λ flavor f. let never : Some flavor ≡ None = sym f ∙ e in cc, h)

  same : (p : Pointer) (flavor : Flavor) → p.sharing ≡ Some flavor → IsTrue (right flavor && pointee_has_flavors right (listed D) p.pointee) → Right p
  same p flavor e h =
      let both = and_parts (right flavor) (pointee_has_flavors right (listed D) p.pointee) h in
      (λ other f. let one : flavor ≡ other = same_some (sym e ∙ f) in rw one at (both.0), both.1)

  single : (p : Pointer) → Right p → All Right (p ∷ [])
  single p h = All-cons Right p [] h (All-nil Right)

  named_right : (name : Name) (Y : Shape) → IsTrue (is_some (definition (listed D) name)) → definition s.table name ≡ Some Y → IsTrue (has_flavors right (listed D) Y)
  named_right name Y h e =
      let (Z, f) = found (definition (listed D) name) h in
      let same : Z ≡ Y = cc (has_each s D has name Z (found_stands (listed D) name Z f), e) in
      rw same at (each name Z (found_stands (listed D) name Z f))

  pub chosen : (vs : Variants) (tag : ℕ) (ps : Parts) → variant_at vs tag ≡ Some ps → IsTrue (variants_have_flavors right (listed D) vs) → IsTrue (parts_have_flavors right (listed D) ps)
  chosen no_variant tag ps e h = cc
  chosen (variant qs vs) zero ps e h = let same : qs ≡ ps = cc in rw same at ((and_parts (parts_have_flavors right (listed D) qs) (variants_have_flavors right (listed D) vs) h).0)
  chosen (variant qs vs) (suc tag) ps e h = chosen vs tag ps e ((and_parts (parts_have_flavors right (listed D) qs) (variants_have_flavors right (listed D) vs) h).1)

  -- an entry has the flavors of its value
  entries_right : (K : Key) (V : Shape) → IsTrue (has_flavors right (listed D) V) → IsTrue (has_flavors right (listed D) (entry_of K V))
  entries_right (leaf_key kind) V h = rw h refl
  entries_right str_key V h = rw h refl

  mutual
    reads_right : {p : ℕ} {X : Shape} {v : Value} → Reads s bytes p X v → IsTrue (has_flavors right (listed D) X) → All Right (pointers v)
    reads_right (reads_leaf l) h = All-nil Right
    reads_right (reads_parts r) h = parts_right r h
    reads_right (reads_choice {variants = vs} {ps = ps} e r) h = parts_right r (chosen vs _ ps e h)
    reads_right (reads_array r) h = run_right r h
    reads_right (reads_boxed {p = p} {P = P}) h = let z = pointer_at bytes p None P in single z (unique z refl h)
    reads_right (reads_vec {p = p} {X = X}) h = let z = pointer_at bytes p None (run X) in single z (unique z refl h)
    reads_right (reads_map {p = p} {K = K} {V = V}) h = let z = map_at bytes p K V in single z (unique z refl (entries_right K V h))
    reads_right (reads_inline o u) h = All-nil Right
    reads_right (reads_out_of_line {p = p} o l) h = single (string_at bytes p) (unique (string_at bytes p) refl refl)
    reads_right (reads_shared {p = p} {flavor = flavor} {P = P}) h = let z = pointer_at bytes p (Some flavor) P in single z (same z flavor refl h)
    reads_right (reads_null e) h = All-nil Right
    reads_right (reads_weak {p = p} {flavor = flavor} {P = P} e) h = let z = pointer_at bytes p (Some flavor) P in single z (same z flavor refl h)
    reads_right (reads_named {name = name} {X = Y} d r) h = reads_right r (named_right name Y h d)

    parts_right : {p at : ℕ} {ps : Parts} {vs : Values} → ReadsParts s bytes p at ps vs → IsTrue (parts_have_flavors right (listed D) ps) → All Right (all_pointers vs)
    parts_right reads_no_part h = All-nil Right
    parts_right (reads_part {X = X} {ps = ps} {v = v} {vs = vs} r rs) h =
        All-append Right (pointers v) (all_pointers vs) (reads_right r ((and_parts (has_flavors right (listed D) X) (parts_have_flavors right (listed D) ps) h).0)) (parts_right rs ((and_parts (has_flavors right (listed D) X) (parts_have_flavors right (listed D) ps) h).1))

    run_right : {p n : ℕ} {X : Shape} {vs : Values} → ReadsRun s bytes p n X vs → IsTrue (has_flavors right (listed D) X) → All Right (all_pointers vs)
    run_right reads_none h = All-nil Right
    run_right (reads_element {v = v} {vs = vs} r rs) h = All-append Right (pointers v) (all_pointers vs) (reads_right r h) (run_right rs h)

  pub contents_right : {q n : ℕ} {P : Pointee} {v : Value} → Contents s bytes q P n v → IsTrue (pointee_has_flavors right (listed D) P) → All Right (pointers v)
  contents_right (contents_one r) h = reads_right r h
  contents_right (contents_run r) h = run_right r h
  contents_right (contents_text u) h = All-nil Right

-- where nothing is shared, no shared pointer is met
module _ (D : Definitions) (each : (name : Name) (Y : Shape) → Contains (listed D) (name, Y) → IsTrue (has_flavors (λ flavor. false) (listed D) Y)) (s : SchemaTable) (has : Has s D) (bytes : List ℕ) where
  abbrev none : Flavor → Bool
  none flavor = false

  found_right : {q n : ℕ} {P : Pointee} {v : Value} (p : Pointer) → Contents s bytes q P n v → IsTrue (pointee_has_flavors none (listed D) P) → Contains (pointers v) p → Right none D each s has bytes p
  found_right {v = v} p c h i = All-contains (Right none D each s has bytes) (pointers v) p (contents_right none D each s has bytes c h) i

  meets_none : {told : Entries} {within : List ℕ} {q n : ℕ} {P : Pointee} → MeetsOpen s bytes told within q P n → IsTrue (pointee_has_flavors none (listed D) P) → ⊥
  meets_none (meets_open {p = p} {flavor = flavor} c i e t o) h = let never = (found_right p c h i).0 flavor e in cc
  meets_none (meets_in_unique {p = p} c i e t m) h = meets_none m (found_right p c h i).1
  meets_none (meets_in_shared {p = p} {flavor = flavor} c i e t unknown m) h = let never = (found_right p c h i).0 flavor e in cc

-- no flavor that is right allows cycles
pub no_cycles : (flavor : Flavor) → IsTrue (not flavor.cycles) → IsTrue flavor.cycles → ⊥
no_cycles flavor h k = let e : flavor.cycles ≡ true = k in let never : not true ≡ true = rw e at h in cc

-- where no flavor allows cycles, no position that is being read is met
acyclic_never : (D : Definitions) (X : Shape) (told : Entries) → IsAcyclic D X → ((t : ℕ) → told t ≡ Some None → ⊥) → (s : SchemaTable) → Knows s D → (bytes : List ℕ) (root : ℕ) → Accepted s bytes root X
    → MeetsOpen s bytes told [] root (one X) 0 → ⊥
acyclic_never D X told h idle s k bytes root a m =
    let allowed : Pointer → Type 0 = Right (λ flavor. not flavor.cycles) D h.definitions s k.has bytes in
    never_open s bytes allowed (λ p flavor ok e cycles. no_cycles flavor (ok.0 flavor e) cycles)
    (λ p t v ok c. contents_right (λ flavor. not flavor.cycles) D h.definitions s k.has bytes c (ok.1))
    k.laid_out a (contents_right (λ flavor. not flavor.cycles) D h.definitions s k.has bytes {n = 0} (contents_one a.flat.reads) h.shape) told idle m
    (root_region s root X) (Contains-push a.regions (root_region s root X)) refl refl refl (λ t c. absurd (omega (arith, c.1)))

-- so the reading of such an archive is never refused for a cycle
pub never_cyclic : (D : Definitions) (bytes : List ℕ) (limit : Option ℕ) (root : ℕ) (X : Shape) (told : Entries) → IsNeverOpen D X told → IsArchiveWithin D bytes limit root X → IsCyclic D bytes told root (one X) 0 → ⊥
never_cyclic D bytes limit root X told u a c = ∥∥₁_elim a.known (λ x y. absurd x)
    (λ (s, k). ∥∥₁_elim (a.accepted s k) (λ x y. absurd x) (λ b.
    let m = c.meets s k (root_lies s bytes b.0) in
    ⊎_elim (λ none. meets_none D none.definitions s k.has bytes m none.shape) (λ calm. acyclic_never D X told (calm.0) (calm.1) s k bytes root (b.0) m) u))
