-- The definitions that an option's or a result's variants add are those of what it holds.
use Rattle.std.proofs.Common.{◌≡◌, sym, subst, inl, inr, ⊎_elim, Contains}
use Rattle.std.proofs.lemmas.List.{append-nil}
use Rattle.archive_check.specs.Shape.{Table}
use Rattle.archive_check.specs.Definitions.{Definitions, both, listed, Extended}
use Rattle.archive_enum.specs.Choices.{option_definitions}
use Rattle.archive_enum.specs.ResultShapes.{result_definitions}

-- what is listed alike is added alike
extended_alike : (D E : Definitions) → listed D ≡ listed E → (old new : Table) → Extended old D new → Extended old E new
extended_alike D E same old new h = record {
  has = λ n X c. h.has n X (subst (λ t. Contains t (n, X)) (sym same) c);
  kept = h.kept;
  only = λ n X e. ⊎_elim inl (λ c. inr (subst (λ t. Contains t (n, X)) same c)) (h.only n X e);
}

pub option_added : (D : Definitions) (old new : Table) → Extended old (option_definitions D) new → Extended old D new
option_added D = extended_alike (option_definitions D) D (simp append-nil)

pub result_added : (D E : Definitions) (old new : Table) → Extended old (result_definitions D E) new → Extended old (both D E) new
result_added D E = extended_alike (result_definitions D E) (both D E) (simp append-nil)
