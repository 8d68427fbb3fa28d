-- What expressions of parts and variants stand for, unless memory was refused.
use Rattle.std.specs.Prelude.{Result, IfOk, ◌≡◌}
use Rattle.std.specs.declared.alloc.AllocError.{AllocError}
use Rattle.std.specs.declared.alloc.Global.{Global}
use Rattle.std.specs.declared.vec.Vec.{Vec}
use Rattle.archive_check.specs.Expressions.{shape_of, shapes_in, variants_in}
use Rattle.archive_check.specs.Shape.{Shape, Parts, Variants}
use Rattle.archive_check.specs.declared.format.expr.Expr.{Expr}

-- The expression is one of this shape.
abbrev pub Expresses : Shape → Result Expr AllocError → Type 0
Expresses s r = IfOk r (λ e. shape_of e ≡ s)

-- The expressions are those of these parts.
abbrev pub ExpressesParts : Parts → Result (Vec Expr Global) AllocError → Type 0
ExpressesParts ps r = IfOk r (λ list. shapes_in list.items ≡ ps)

-- The expressions are those of the parts of these variants.
abbrev pub ExpressesVariants : Variants → Result (Vec (Vec Expr Global) Global) AllocError → Type 0
ExpressesVariants vs r = IfOk r (λ list. variants_in list.items ≡ vs)
