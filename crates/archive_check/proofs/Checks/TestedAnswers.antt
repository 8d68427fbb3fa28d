-- What tests say, and answers that are no refusals.
use Rattle.std.proofs.Common.{◌≡◌, refl, Bool, true, false, Result, Ok, Err, is_err, IsTrue}
use Rattle.archive_check.specs.declared.format.error.Error.{Error}

pub not_true : (b : Bool) → b ≡ false → IsTrue b → ⊥
not_true b e h = cc

pub is_true : (b : Bool) → b ≡ true → IsTrue b
is_true b e = e

-- an answer that is no refusal
pub not_refused : (r : Result (Unit {0}) Error) → is_err r ≡ false → Ok tt ≡ r
not_refused (Ok tt) e = refl
not_refused (Err x) e = cc

pub not_err : {A : Type 0} (x : A) (e : Error) → ◌≡◌ {A = Result A Error} (Ok x) (Err e) → ⊥
not_err x e is = cc
