-- How variants with no part or one are written, and names that stand for what is written; and why they are refused.
use Rattle.std.proofs.Common.{◌≡◌, inl, inr, ℕ, ◌+◌, List, [], refl, ap, subst, arith, Some}
use Rattle.std.proofs.lemmas.List.Elements.{Contains-append_left}
use Rattle.archive_check.specs.Shape.{Name, Shape, choice, named, Variants, part, no_part, variant_at}
use Rattle.archive_check.specs.Layout.{Layout, up, align_of}
use Rattle.archive_check.specs.Definitions.{Definitions, Knows, HasLayout}
use Rattle.archive_check.specs.Value.{Value, case, no_value}
use Rattle.archive_check.specs.Reads.{SchemaTable}
use Rattle.archive_check.specs.WriterState.{WriterState}
use Rattle.archive_check.specs.declared.format.error.Error.{Error}
use Rattle.archive_check.specs.Denotes.{Naming}
use Rattle.archive_types.specs.Writing.{World, Covers, Writes}
use Rattle.archive_types.specs.Plans.{cursor, Serialized, serialized}
use Rattle.archive_types.specs.Causes.{part_of_choice, in_first_part, HindersPartAt, HindersAt, IsRefused}
use Rattle.archive_types.specs.Members.Variants.{case_of, case_plan, empty_plan}
use Rattle.archive_types.proofs.Writing.Appending.{align_is, writes_case, writes_empty_case}
use Rattle.archive_types.proofs.Planning.Causes.{explains_sooner}
use Rattle.archive_types.proofs.Planning.Planned.{is_here}

-- under more definitions

module _ (D E : Definitions) (known : (s : SchemaTable) → Knows s D → Knows s E) where
  covers_less : (w : World) (told : List ℕ) (states : _) (keys : List Naming) → Covers w D told states keys → Covers w E told states keys
  covers_less w told states keys h = record { knows = known w.schema h.knows; rest = h.rest; begins = h.begins; placed = h.placed; named = h.named }

  pub writes_more : (old new : WriterState) (keys : List Naming) (flat v : Value) → Writes E old new keys flat v → Writes D old new keys flat v
  writes_more old new keys flat v h = record {
    added = h.added;
    grown = h.grown;
    states = h.states;
    finished = h.finished;
    appends = λ w pending seen n. h.appends w pending seen (covers_less w _ _ keys n);
    fills = λ w n. h.fills w (covers_less w _ _ keys n);
  }

-- a variant with one part, by what is known of the part

module _ (D E : Definitions) (known : (s : SchemaTable) → Knows s D → Knows s E) (name : Name) (vs : Variants) (tag : ℕ) (X : Shape) (is : variant_at vs tag ≡ Some (part X no_part)) (keys : List Naming) (v : Value) where
  pub serialized_case : (flat : Value) (old new : WriterState) → Serialized E X keys v flat old new → Serialized D (choice name vs) keys (case_of tag v) (case_of tag flat) old new
  serialized_case flat old new (serialized writes planned) = serialized (writes_case D old new keys tag flat v (writes_more D E known old new keys flat v writes))
      (λ below s names k n. (let q = planned below s names (known s k) n in case_plan name vs tag X is v s names (cursor old) _ _ q (ap (case_of tag) q.such.0, q.such.1)))

  pub case_refused : (old new : WriterState) (e : Error) → IsRefused E X keys v old new e → IsRefused D (choice name vs) keys (case_of tag v) old new e
  case_refused old new e h = explains_sooner _ _ _ _ old new e
      (λ x. record {
        named = x.named;
        cause = λ below s names k n. (
            let q = x.cause below s names (known s k) n in
            case_plan name vs tag X is v s names (cursor old) _ _ q (elim q.such [
              | inl y ↦ inl (y.0, Contains-append_left q.steps [] y.0 y.1, y.2)
              | inr y ↦ inr (_, y.1, y.2, part_of_choice is (in_first_part y.3), y.4)
            ]));
      })
      (λ m x below s names k n. (let q = x below s names (known s k) n in case_plan name vs tag X is v s names (cursor old) _ _ q q.such)) h

-- what hinders the part where it lies hinders the variant
pub case_hindered_at : (D E : Definitions) (known : (s : SchemaTable) → Knows s D → Knows s E) (name : Name) (vs : Variants) (tag : ℕ) (X : Shape) (is : variant_at vs tag ≡ Some (part X no_part)) (L : Layout) → HasLayout E X L
    → (flat : Value) (p offset : ℕ) (e : Error) → offset ≡ up 1 L.align → HindersAt E X flat (p + offset) e → HindersAt D (choice name vs) (case_of tag flat) p e
case_hindered_at D E known name vs tag X is L layout flat p offset e there h = record {
  named = h.named;
  cause = λ s k. (
      let x = h.cause s (known s k) in
      let here : p + offset + x.0 ≡ p + (up 1 (align_of s.layouts X) + x.0) = rw (align_is layout s (known s k), ← there) (omega arith) in
      (up 1 (align_of s.layouts X) + x.0, x.1, x.2, part_of_choice is (in_first_part x.3), subst (λ q. HindersPartAt x.1 q x.2 e) here x.4));
}

-- a variant with none

pub serialized_empty_case : (D : Definitions) (name : Name) (vs : Variants) (tag : ℕ) → variant_at vs tag ≡ Some no_part → (w : WriterState)
    → Serialized D (choice name vs) [] (case tag no_value) (case tag no_value) w w
serialized_empty_case D name vs tag is w = serialized (writes_empty_case D w tag)
    (λ below s names k n. empty_plan name vs tag is s names (cursor w) _ (refl, is_here w))
