-- A whole call of a writer.
use Rattle.std.proofs.Common.{◌≡◌, inl, inr, ℕ, ◌+◌, List, [], ◌∷◌, ◌++◌, length, refl, sym, ap, ◌∙◌, append_assoc, length-append, arith, Option, Some, None, Result, Ok, Err, IfOk}
use Rattle.std.specs.FinMap.{get, empty, get-empty}
use Rattle.std.specs.Ordering.{nat_cmp}
use Rattle.std.proofs.lemmas.List.{append-nil}
use Rattle.archive_check.specs.Shape.{Shape, one}
use Rattle.archive_check.specs.Layout.{size_of}
use Rattle.archive_check.specs.Definitions.{Definitions}
use Rattle.archive_check.specs.Value.{Value, pointers}
use Rattle.archive_check.specs.Reads.{Reads}
use Rattle.archive_check.specs.Tour.{Region, Entry, Accepted, root_region}
use Rattle.archive_check.specs.Denotes.{Naming, IsSharedValue, rename}
use Rattle.archive_check.specs.Tightness.{Tight}
use Rattle.archive_check.specs.CleanRegions.{Occurs, CleanRegions}
use Rattle.archive_check.specs.WriterState.{WriterState}
use Rattle.archive_check.specs.declared.format.error.Error.{Error}
use Rattle.archive_types.specs.Plans.{SerializedRegion, serialized_region}
use Rattle.archive_check.proofs.Names.PositiveAlignments.{align_pos}
use Rattle.archive_check.proofs.Meanings.MeaningExists.{has_meaning}
use Rattle.archive_check.proofs.Meanings.MeaningUnique.{tours_one}
use Rattle.archive_check.proofs.Tours.StandingBytes.{stands_zero, zero_nowhere, stands_begun}
use Rattle.archive_check.proofs.Tours.CleanRegions.{regions_clean}
use Rattle.archive_check.proofs.Tours.Tightness.{tight_append, clean_regions_append, ArePositive, positive_append, sized_append, tour_positive, tour_sized, rising_lower, tight_rises}
use Rattle.archive_check.proofs.Checks.AcceptedWalks.{reads_of}
use Rattle.archive_types.specs.Writing.{IsKeyed, World, Covers, Known as KnownKeys, Unseen, Found, Appends, LaysOut, Archives}
use Rattle.archive_types.proofs.Writing.Denoting.{InTheEnd, same_in_the_end, rename_plain}

abbrev position_in : Option (Option ℕ) → ℕ
position_in None = 0
position_in (Some None) = 0
position_in (Some (Some t)) = t

-- where no key was known, what was laid out last is an archive
pub archives : (D : Definitions) (old new : WriterState) (ks : List Naming) (x : Value) (X : Shape) (size root : ℕ)
    → ((k : ℕ) → old.states k ≡ None) → IsKeyed ks x → LaysOut D old new ks root (one X) 0 x → root + size ≡ length new.bytes
    → Archives D old.bytes new.bytes root X size ks x
archives D old new ks x X size root fresh keyed h end =
    let o = h.owned in
    let mid = h.mid in
    let v = h.flat in
    record {
      added = o.added ++ (h.zeros ++ h.region);
      grown = h.grown ∙ ap (λ z. z ++ (h.zeros ++ h.region)) o.grown ∙ append_assoc old.bytes o.added (h.zeros ++ h.region);
      root_ends = end;
      archived = λ s names knows keys. (
          let position : ℕ → ℕ = λ k. position_in (mid.states k) in
          let w : World = record { schema = s; bytes = new.bytes; position = position; names = names } in
          let holds : Covers w D mid.bytes mid.states ks = record { knows = knows; rest = h.zeros ++ h.region; begins = h.grown; placed = λ k t is. ap position_in is; named = keys.named } in
          let known : KnownKeys w old.states (length old.bytes) empty [] = record { typed = λ k t e y is names. (let no = fresh k in cc); inner = λ k t e y is names. (let no = fresh k in cc); closed = λ k t is. (let no = fresh k in cc); below = λ k t is. (let no = fresh k in cc); opened = λ t is. absurd (omega (arith, is.1)) } in
          let unseen : Unseen empty (length old.bytes) (length mid.bytes) = record { unseen = λ t a b. get-empty {X = Entry} nat_cmp t } in
          let first : Appends w (length old.bytes) (length mid.bytes) mid.states [] empty (pointers v) = o.appends w [] empty holds known unseen in
          let apart : new.bytes ≡ (mid.bytes ++ h.zeros) ++ h.region = h.grown ∙ sym (append_assoc mid.bytes h.zeros h.region) in
          let stands : Occurs new.bytes root h.region = stands_begun new.bytes (mid.bytes ++ h.zeros) h.region [] root (apart ∙ sym (append-nil ((mid.bytes ++ h.zeros) ++ h.region))) (h.at ∙ sym (length-append mid.bytes h.zeros)) in
          let whole : length h.region ≡ size_of s.layouts X = h.sized s knows in
          let reads : Reads s new.bytes root X v = reads_of (h.contents s new.bytes knows stands) in
          let C : List Region = first.regions ++ root_region s root X ∷ [] in
          let ends : length new.bytes ≡ root + size_of s.layouts X = omega (arith, ap length apart, length-append (mid.bytes ++ h.zeros) h.region, length-append mid.bytes h.zeros, h.at, whole) in
          let tight : Tight (length old.bytes) C (length new.bytes)
          = tight_append (length old.bytes) first.regions (length mid.bytes) (root_region s root X ∷ []) (length new.bytes) first.tight (h.aligned s knows, ends) in
          let zeros = stands_zero new.bytes (length mid.bytes) root h.zeros h.zeroed h.at (stands_begun new.bytes mid.bytes h.zeros h.region _ apart refl) in
          let clean : CleanRegions s new.bytes (length old.bytes) C
          = clean_regions_append s new.bytes (length old.bytes) first.regions (length mid.bytes) (root_region s root X ∷ []) first.tight first.clean
          (zeros, h.clean s new.bytes knows stands, zero_nowhere new.bytes _ _ (omega arith), tt) in
          let positive : ArePositive C = positive_append first.regions (root_region s root X ∷ []) (tour_positive s knows.laid_out first.tour) (align_pos s.layouts knows.laid_out.aligned X, tt) in
          let accepted : Accepted s new.bytes root X = record {
            value = v;
            regions = first.regions;
            seen = first.last;
            flat = record { fits = omega (arith, ends); reads = reads; holes = refl };
            tour = first.tour;
            rising = rising_lower 0 (length old.bytes) C (length new.bytes) (omega arith) (tight_rises (length old.bytes) C (length new.bytes) positive tight);
          } in
          let (m, d) = has_meaning s new.bytes accepted in
          let shared : (t : ℕ) → IsSharedValue s new.bytes t (get first.last t) (get m.shared t) = rw ((tours_one s new.bytes accepted d.accepted).1) at d.shared in
          let found : (t : ℕ) (e : Entry) → get first.last t ≡ Some e → Found w mid.states t e
          = λ t e is. elim (first.found t e is) [ inl at ↦ (let none = get-empty {X = Entry} nat_cmp t in cc) | inr f ↦ f ] in
          let all : InTheEnd w mid.states ks x first.last m.shared = record {
            placed = λ k t is. ap position_in is;
            apart = λ k l t is at. o.states.apart k l t (fresh k) (fresh l) is at;
            finished = o.finished;
            keys = keys;
            keyed = keyed;
            typed = first.known.typed;
            inner = first.known.inner;
            found = found;
            knows = shared;
          } in
          record {
            meaning = record { value = rename position x; shared = m.shared };
            denotes = record { accepted = accepted; root_value = o.fills w holds; shared = shared };
            same = same_in_the_end w mid.states ks x first.last m.shared all;
            plain = rename_plain position x;
            tight = tight;
            clean = regions_clean s new.bytes knows.laid_out.solves (length old.bytes) C (sized_append s first.regions (root_region s root X ∷ []) (tour_sized s first.tour) (refl, tt)) tight clean;
          });
    }

pub archives_of : (r : Result ℕ Error) (D : Definitions) (old new : WriterState) (ks : List Naming) (x : Value) (X : Shape) (size : ℕ)
    → ((k : ℕ) → old.states k ≡ None) → IsKeyed ks x → IfOk r (λ p. SerializedRegion D (one X) 0 ks x p old new) → IfOk r (λ p. p + size ≡ length new.bytes)
    → IfOk r (λ root. Archives D old.bytes new.bytes root X size ks x)
archives_of (Ok p) D old new ks x X size fresh keyed (serialized_region lays planned) ends = archives D old new ks x X size p fresh keyed lays ends
archives_of (Err e) D old new ks x X size fresh keyed h ends = tt
