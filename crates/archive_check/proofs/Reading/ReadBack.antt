-- What leads to no shared value is read back as what it says, and nothing is told of it.
use Rattle.std.proofs.Common.{◌≡◌, ⊎_elim, ℕ, List, [], ◌∷◌, Some, Contains, arith, refl, sym, ap, Bool}
use Rattle.archive_check.specs.Shape.{Kind, leaf, str, Pointee, one, text}
use Rattle.archive_check.specs.Value.{Pointer, Value, pointers}
use Rattle.archive_check.specs.Reads.{SchemaTable, string_at, reads_leaf, reads_inline, reads_out_of_line}
use Rattle.archive_check.specs.Tour.{Contents, contents_one, contents_text}
use Rattle.archive_check.specs.Definitions.{Definitions}
use Rattle.archive_check.specs.Pooled.{Entries}
use Rattle.archive_check.specs.Viewed.{Says}
use Rattle.archive_check.specs.Entries.{KeepsEntries, MeetsOpen, meets_open, meets_in_unique, meets_in_shared, ReadsBack}
use Rattle.archive_check.proofs.Elements.{contains_cases}

module _ (D : Definitions) (bytes : List ℕ) (q n : ℕ) (old new : Entries) (same : new ≡ old) where
  kept_same : KeepsEntries old new
  kept_same = rw same (record { finished = λ t k h. h; pending = λ t. (λ h. h, λ h. h); named = λ h. h })

  pub read_back : {keeps : Bool} (P : Pointee) (w : Value) → Says D bytes q P n w → ((s : SchemaTable) → MeetsOpen s bytes old [] q P n → ⊥) → ReadsBack keeps D bytes q P n old new w []
  read_back P w says unmet = record {
    kept = kept_same;
    value = λ named. says;
    shared = λ named s m k l d right. (λ key c. absurd (omega (arith, c.1)), rw same right);
    unmet = λ s k l. unmet s;
    closed = λ s k l t x none some. let known : old t ≡ Some (Some x) = rw same at some in cc;
    once = λ on named complete. (λ key c. absurd (omega (arith, c.1)), rw same complete);
  }

  -- where it has no pointer, none is followed
  pub bare : (s : SchemaTable) (P : Pointee) → ((v : Value) → Contents s bytes q P n v → pointers v ≡ []) → MeetsOpen s bytes old [] q P n → ⊥
  bare s P h (meets_open {v = v} c i e t o) = let none = rw (h v c) at i in omega (arith, none.1)
  bare s P h (meets_in_unique {v = v} c i e t m) = let none = rw (h v c) at i in omega (arith, none.1)
  bare s P h (meets_in_shared {v = v} c i e t u m) = let none = rw (h v c) at i in omega (arith, none.1)

  leaf_bare : (s : SchemaTable) (kind : Kind) (v : Value) → Contents s bytes q (one (leaf kind)) n v → pointers v ≡ []
  leaf_bare s kind v (contents_one (reads_leaf l)) = refl

  pub leaf_read_back : {keeps : Bool} (kind : Kind) (w : Value) → Says D bytes q (one (leaf kind)) n w → ReadsBack keeps D bytes q (one (leaf kind)) n old new w []
  leaf_read_back kind w says = read_back (one (leaf kind)) w says (λ s. bare s (one (leaf kind)) (leaf_bare s kind))

  text_bare : (s : SchemaTable) (v : Value) → Contents s bytes q text n v → pointers v ≡ []
  text_bare s v (contents_text u) = refl

  pub text_read_back : {keeps : Bool} (w : Value) → Says D bytes q text n w → ReadsBack keeps D bytes q text n old new w []
  text_read_back w says = read_back text w says (λ s. bare s text (text_bare s))

-- a string leads to a text at most
module _ (s : SchemaTable) (bytes : List ℕ) (told : Entries) where
  text_unmet : (within : List ℕ) (q n : ℕ) → MeetsOpen s bytes told within q text n → ⊥
  text_unmet within q n (meets_open (contents_text u) i e t o) = omega (arith, i.1)
  text_unmet within q n (meets_in_unique (contents_text u) i e t m) = omega (arith, i.1)
  text_unmet within q n (meets_in_shared (contents_text u) i e t none m) = omega (arith, i.1)

  its_text : (q : ℕ) (p : Pointer) → Contains (string_at bytes q ∷ []) p → p ≡ string_at bytes q
  its_text q p i = ⊎_elim (λ e. sym e) (λ c. absurd (omega (arith, c.1))) (contains_cases (string_at bytes q) [] p i)

  string_unmet : (within : List ℕ) (q n : ℕ) → MeetsOpen s bytes told within q (one str) n → ⊥
  string_unmet within q n (meets_open (contents_one (reads_inline o u)) i e t z) = omega (arith, i.1)
  string_unmet within q n (meets_open {p = p} (contents_one (reads_out_of_line o l)) i e t z) = let is = its_text q p i in cc
  string_unmet within q n (meets_in_unique (contents_one (reads_inline o u)) i e t m) = omega (arith, i.1)
  string_unmet within q n (meets_in_unique {t = t} {p = p} (contents_one (reads_out_of_line o l)) i e there m) =
      let same : p.pointee ≡ text = ap (λ (z : Pointer). z.pointee) (its_text q p i) in text_unmet within t p.length (rw same at m)
  string_unmet within q n (meets_in_shared (contents_one (reads_inline o u)) i e t none m) = omega (arith, i.1)
  string_unmet within q n (meets_in_shared {p = p} (contents_one (reads_out_of_line o l)) i e t none m) = let is = its_text q p i in cc

pub string_read_back : {keeps : Bool} (D : Definitions) (bytes : List ℕ) (q n : ℕ) (old new : Entries) → new ≡ old → (w : Value) → Says D bytes q (one str) n w → ReadsBack keeps D bytes q (one str) n old new w []
string_read_back D bytes q n old new same w says = read_back D bytes q n old new same (one str) w says (λ s. string_unmet s bytes old [] q n)
