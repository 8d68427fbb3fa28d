-- What is said of a check by definitions and a shape, those of a type or of a schema, in the words of its context. `Both` is a parameter as a clause names
-- it: what it was as the call began, and what it is at the return.
use denote.Triple.Both.{Both}
use denote.Ref.{MutBor}
use Rattle.std.specs.Prelude.{ℕ, List, Result}
use Rattle.archive_check.specs.declared.context.Context as Context
use Rattle.archive_check.specs.declared.format.error.Error.{Error}
use Rattle.archive_check.specs.Shape.{Shape}
use Rattle.archive_check.specs.Definitions.{Definitions}
use Rattle.archive_check.specs.Archives.{Answers}
use Rattle.archive_check.specs.context.FreshContexts.{IsWholeIn}

module _ {C : Type 0} (D : Definitions) (X : Shape) (k : Context.Ghosts C) (c : Both (MutBor C) (MutBor C)) where
  -- In a fresh context for these bytes: the result, with the root at p.
  abbrev pub AnswersIn : List ℕ → ℕ → Result (Unit {0}) Error → Type 0
  AnswersIn bytes p result = IsWholeIn k c.entry.now bytes → Answers D bytes (k.state c.entry.now).depth p X result
