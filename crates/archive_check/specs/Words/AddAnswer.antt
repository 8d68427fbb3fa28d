-- The result of adding a definition to others.
use Rattle.std.specs.Prelude.{◌≡◌, ◌≢◌, Bool, true, false, Option, Some, None, Result, Ok, Err}
use Rattle.std.specs.Borrow.{Bor}
use Rattle.archive_check.specs.declared.format.error.Error.{Error}
use Rattle.archive_check.specs.declared.format.error.Error.TheVariants.{OutOfMemory, ShapeConflict}
use Rattle.archive_check.specs.declared.format.expr.Expr.{Expr}
use Rattle.archive_check.specs.Shape.{Shape}
use Rattle.archive_check.specs.Expressions.{shape_of}

-- an expression is found where there is a shape, and has that shape.
abbrev pub IsFound : Option (Bor Expr) → Option Shape → Type 0
IsFound None shape = shape ≡ None
IsFound (Some expr) shape = shape ≡ Some (shape_of expr.now)

-- The result where a name gets the definition X: whether it had none. It had this one if the result is false. Another one is a
-- conflict, and memory may be refused for a new one.
abbrev pub IsAddAnswer : Option Shape → Shape → Result Bool Error → Type 0
IsAddAnswer old X (Ok true) = old ≡ None
IsAddAnswer old X (Ok false) = old ≡ Some X
IsAddAnswer None X (Err e) = e ≡ OutOfMemory
IsAddAnswer (Some Y) X (Err e) = (e ≡ ShapeConflict) × (Y ≢ X)
