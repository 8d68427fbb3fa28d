-- How owners and values with parts go as planned, and why they are refused: from what is known of what they own and of their parts.
use Rattle.std.proofs.Common.{◌≡◌, inl, inr, ℕ, ◌<◌, List, refl, ap, arith}
use Rattle.archive_check.specs.Shape.{Shape, boxed, vec, Pointee, one, run}
use Rattle.archive_check.specs.Definitions.{Definitions}
use Rattle.archive_check.specs.Value.{Value, box, hole}
use Rattle.archive_check.specs.WriterState.{WriterState}
use Rattle.archive_check.specs.declared.format.error.Error.{Error}
use Rattle.archive_check.specs.declared.format.error.Error.TheVariants.{PositionTooLarge}
use Rattle.archive_check.specs.Denotes.{Naming}
use Rattle.archive_types.specs.Writing.{to_pointee}
use Rattle.archive_types.specs.Plans.{cursor, Serialized, serialized, SerializedRegion, serialized_region}
use Rattle.archive_types.specs.Members.PlannedOwners.{box_plan, vec_plan}
use Rattle.archive_types.specs.Causes.{own_cause, of_position, part_itself, owner_box, owner_vec, stands_too_far, IsRefused, IsRegionRefused}
use Rattle.archive_types.proofs.Writing.Appending.{writes_laid, writes_box}
use Rattle.archive_types.proofs.Planning.Causes.{explains_sooner}

-- the owner of a region: what it owns is laid out, and it points there
module _ (D : Definitions) (P : Pointee) (n : ℕ) (ks : List Naming) (v : Value) where
  pub serialized_box : (t : ℕ) (old new : WriterState) → SerializedRegion D P n ks v t old new → Serialized D (boxed P) ks (box v) (box (hole (to_pointee t P n))) old new
  serialized_box t old new (serialized_region region planned) = serialized (writes_box D old new ks (to_pointee t P n) v (writes_laid D old new ks t P n v region))
      (λ below s names k m. box_plan D P n ks v s names (cursor old) _ _ (λ q C b x. (ap (λ p. box (hole (to_pointee p P n))) x.0, x.1)) (planned below s names k m))

  pub box_refused : (old new : WriterState) (e : Error) → IsRegionRefused D P n ks v old new e → IsRefused D (boxed P) ks (box v) old new e
  box_refused old new e h = explains_sooner _ _ _ _ old new e
      (λ x. record { named = x.named; cause = λ below s names k m. box_plan D P n ks v s names (cursor old) _ _ (λ t C b y. inl y) (x.cause below s names k m) })
      (λ q x below s names k m. box_plan D P n ks v s names (cursor old) _ _ (λ t C b y. y) (x below s names k m)) h

  -- its region stands above 4,294,967,295
  pub far_box_refused : (t : ℕ) (old new : WriterState) → 4294967295 < t → SerializedRegion D P n ks v t old new → IsRefused D (boxed P) ks (box v) old new PositionTooLarge
  far_box_refused t old new far (serialized_region region planned) = own_cause (record {
    named = of_position;
    cause = λ below s names k m. box_plan D P n ks v s names (cursor old) _ _
        (λ q C b x. inr (0, boxed P, box (hole (to_pointee q P n)), part_itself, stands_too_far owner_box refl (omega (arith, x.0, far)))) (planned below s names k m);
  })

-- a region of one value, as what its type says that it is
pub serialized_pointee : (D : Definitions) (P : Pointee) (X : Shape) (ks : List Naming) (v : Value) (t : ℕ) (old new : WriterState) → P ≡ one X → SerializedRegion D (one X) 0 ks v t old new → SerializedRegion D P 0 ks v t old new
serialized_pointee D P X ks v t old new is h = rw is h

pub pointee_refused : (D : Definitions) (P : Pointee) (X : Shape) (ks : List Naming) (v : Value) (old new : WriterState) (e : Error) → P ≡ one X → IsRegionRefused D (one X) 0 ks v old new e → IsRegionRefused D P 0 ks v old new e
pointee_refused D P X ks v old new e is h = rw is h

-- the owner of one value
module _ (D : Definitions) (P : Pointee) (X : Shape) (ks : List Naming) (v : Value) (is : P ≡ one X) where
  pub serialized_boxed_one : (t : ℕ) (old new : WriterState) → SerializedRegion D (one X) 0 ks v t old new → Serialized D (boxed P) ks (box v) (box (hole (to_pointee t P 0))) old new
  serialized_boxed_one t old new h = rw is (serialized_box D (one X) 0 ks v t old new h)

  pub boxed_one_refused : (old new : WriterState) (e : Error) → IsRegionRefused D (one X) 0 ks v old new e → IsRefused D (boxed P) ks (box v) old new e
  boxed_one_refused old new e h = rw is (box_refused D (one X) 0 ks v old new e h)

  pub far_boxed_one_refused : (t : ℕ) (old new : WriterState) → 4294967295 < t → SerializedRegion D (one X) 0 ks v t old new → IsRefused D (boxed P) ks (box v) old new PositionTooLarge
  far_boxed_one_refused t old new far h = rw is (far_box_refused D (one X) 0 ks v t old new far h)

module _ (D : Definitions) (X : Shape) (n : ℕ) (ks : List Naming) (v : Value) where
  pub serialized_vec : (t : ℕ) (old new : WriterState) → SerializedRegion D (run X) n ks v t old new → Serialized D (vec X) ks v (hole (to_pointee t (run X) n)) old new
  serialized_vec t old new (serialized_region region planned) = serialized (writes_laid D old new ks t (run X) n v region)
      (λ below s names k m. vec_plan D X n ks v s names (cursor old) _ _ (λ q C b x. (ap (λ p. hole (to_pointee p (run X) n)) x.0, x.1)) (planned below s names k m))

  pub vec_refused : (old new : WriterState) (e : Error) → IsRegionRefused D (run X) n ks v old new e → IsRefused D (vec X) ks v old new e
  vec_refused old new e h = explains_sooner _ _ _ _ old new e
      (λ x. record { named = x.named; cause = λ below s names k m. vec_plan D X n ks v s names (cursor old) _ _ (λ t C b y. inl y) (x.cause below s names k m) })
      (λ q x below s names k m. vec_plan D X n ks v s names (cursor old) _ _ (λ t C b y. y) (x below s names k m)) h

  -- its region stands above 4,294,967,295
  pub far_vec_refused : (t : ℕ) (old new : WriterState) → 4294967295 < t → SerializedRegion D (run X) n ks v t old new → IsRefused D (vec X) ks v old new PositionTooLarge
  far_vec_refused t old new far (serialized_region region planned) = own_cause (record {
    named = of_position;
    cause = λ below s names k m. vec_plan D X n ks v s names (cursor old) _ _
        (λ q C b x. inr (0, vec X, hole (to_pointee q (run X) n), part_itself, stands_too_far owner_vec refl (omega (arith, x.0, far)))) (planned below s names k m);
  })
