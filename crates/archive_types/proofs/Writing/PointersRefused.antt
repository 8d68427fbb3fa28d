-- Why a pointer isn't written: what the writer refuses, nothing else hinders.
use Rattle.std.proofs.Common.{inl, inr, ℕ, Option, subst}
use Rattle.archive_check.specs.declared.format.error.Error.{Error}
use Rattle.archive_num.specs.OwnerBytes.{HindersPointerAt}
use Rattle.archive_write.specs.Written.{ExplainsRefusal}

module _ (n position held : ℕ) (room : Option ℕ) (before after : ℕ) where
  abbrev Refused : Error → Type 0
  Refused = ExplainsRefusal n position held room before after

  pub writer_refuses : (count size p t : ℕ) (e : Error) → Refused e → HindersPointerAt count size p t e → ⊥
  writer_refuses count size p t e refused hinders = elim hinders [
    | inl long ↦ subst Refused long.0 refused
    | inr (inl end) ↦ subst Refused end.0 refused
    | inr (inr (inl far)) ↦ subst Refused far.0 refused
    | inr (inr (inr far)) ↦ subst Refused far.0 refused
  ]
