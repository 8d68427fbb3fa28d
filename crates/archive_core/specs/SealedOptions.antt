-- What is said of seals of an option, and of its value.
use Rattle.std.specs.Prelude.{◌≡◌, ◌+◌, Option, MatchOption, IfSome}
use Rattle.archive_check.specs.Shape.{one}
use Rattle.archive_check.specs.Words.Formats.{FormatOf}
use Rattle.archive_core.specs.SealOutcomes.{IsSealOf, SealsPart, seal_tag}
use Rattle.archive_core.specs.declared.seal.Seal.{Seal}
use Rattle.archive_enum.specs.Choices.{option_shape}

-- The seal shows an option of this format.
abbrev pub IsSealOfOption : {T M : Type 0} → FormatOf M → Seal T → Type 0
IsSealOfOption f v = IsSealOf f.definitions (one (option_shape f.shape)) v

-- What is left is the seal of its value, if there is one, behind the tag.
pub record SealsValue {T U M : Type 0} (f : FormatOf M) (v : Seal T) (o : Option (Seal U)) : Type 0 where
  pub tag : MatchOption o (seal_tag v ≡ 0) (λ u. seal_tag v ≡ 1)
  pub value : IfSome o (SealsPart f.definitions (one (option_shape f.shape)) f.definitions f.pointee (v.pos + f.layout.align) 0 v)
