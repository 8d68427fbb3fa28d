-- What is said of seals of a result, and of what it holds: of the value or of the error, whichever there is.
use Rattle.std.specs.Prelude.{◌≡◌, ◌+◌, Option, IfSome, MatchOption, Result, MatchResult}
use Rattle.archive_check.specs.Shape.{one}
use Rattle.archive_check.specs.Definitions.{both}
use Rattle.archive_check.specs.Words.Formats.{FormatOf}
use Rattle.archive_core.specs.SealOutcomes.{IsSealOf, SealsPart, seal_tag}
use Rattle.archive_core.specs.declared.seal.Seal.{Seal}
use Rattle.archive_enum.specs.ResultShapes.{result_shape}

-- The seal shows a result, of a value and an error of these formats.
abbrev pub IsSealOfResult : {T M N : Type 0} → FormatOf M → FormatOf N → Seal T → Type 0
IsSealOfResult f g v = IsSealOf (both f.definitions g.definitions) (one (result_shape f.shape g.shape)) v

-- What the second seal shows stands behind the tag of the result that the first one shows: of the third of these formats.
abbrev pub SealsBehindTag : {T U M N W : Type 0} → FormatOf M → FormatOf N → FormatOf W → Seal T → Seal U → Type 0
SealsBehindTag f g h v u = SealsPart (both f.definitions g.definitions) (one (result_shape f.shape g.shape)) h.definitions h.pointee (v.pos + h.layout.align) 0 v u

-- What is left is the seal of the value or of the error, as the tag says.
pub record SealsHeld {T U V M N : Type 0} (f : FormatOf M) (g : FormatOf N) (v : Seal T) (r : Result (Seal U) (Seal V)) : Type 0 where
  pub tag : MatchResult r (λ s. seal_tag v ≡ 0) (λ e. seal_tag v ≡ 1)
  pub held : MatchResult r (SealsBehindTag f g f v) (SealsBehindTag f g g v)

-- What is left is the seal of the value, if there is one.
pub record SealsOk {T U M N : Type 0} (f : FormatOf M) (g : FormatOf N) (v : Seal T) (o : Option (Seal U)) : Type 0 where
  pub tag : MatchOption o (seal_tag v ≡ 1) (λ u. seal_tag v ≡ 0)
  pub value : IfSome o (SealsBehindTag f g f v)
