-- The shapes that expressions of the program stand for.
use Rattle.std.specs.Prelude.{List, [], ◌∷◌}
use Rattle.std.specs.Int.{Width, w8, w16, w32, w64, w128}
use Rattle.std.specs.declared.vec.Vec.{Vec as RustVec}
use Rattle.std.specs.declared.alloc.Global.{Global}
use Rattle.archive_check.specs.declared.format.expr.IntegerKind.{IntegerKind}
use Rattle.archive_check.specs.declared.format.expr.IntegerKind.TheVariants.{U8, I8, U16, I16, U32, I32, U64, I64, U128, I128}
use Rattle.archive_check.specs.declared.format.expr.Kind.{Kind as KindExpr}
use Rattle.archive_check.specs.declared.format.expr.Kind.TheVariants.{Unit as UnitKind, Bool as BoolKind, Char as CharKind, Number, NonZero, RawRel}
use Rattle.archive_check.specs.declared.format.expr.Key.{Key as KeyExpr}
use Rattle.archive_check.specs.declared.format.expr.Key.TheVariants as key
use Rattle.archive_check.specs.declared.format.expr.FlavorInfo.{FlavorInfo}
use Rattle.archive_check.specs.declared.format.expr.Pointee.{Pointee as PointeeExpr}
use Rattle.archive_check.specs.declared.format.expr.Pointee.TheVariants as pointee
use Rattle.archive_check.specs.declared.format.expr.Expr.{Expr, Row_of-Expr, end_of-Expr, more_of-Expr, Row_of-Expr-Choice-1-1, end_of-Expr-Choice-1-1, more_of-Expr-Choice-1-1}
use Rattle.archive_check.specs.declared.format.expr.Expr.TheVariants as expr
use Rattle.archive_check.specs.declared.format.defs.Def.{Def}
use Rattle.archive_check.specs.declared.format.defs.Defs.{Defs}
use Rattle.archive_check.specs.Shape.{Sign, unsigned, signed, Kind, unit, bool, char, number, non_zero, raw_rel, Key, leaf_key, str_key, Flavor, Shape, leaf, parts, choice, array, boxed, vec, sorted_map, str, shared, weak, named, Pointee, one, run, text, Parts, no_part, part, Variants, no_variant, variant, Table}

-- The sign of an integer, and its width.
abbrev pub integer_of : IntegerKind → Sign × Width
integer_of U8 = (unsigned, w8)
integer_of I8 = (signed, w8)
integer_of U16 = (unsigned, w16)
integer_of I16 = (signed, w16)
integer_of U32 = (unsigned, w32)
integer_of I32 = (signed, w32)
integer_of U64 = (unsigned, w64)
integer_of I64 = (signed, w64)
integer_of U128 = (unsigned, w128)
integer_of I128 = (signed, w128)

-- The leaf.
abbrev pub kind_of : KindExpr → Kind
kind_of UnitKind = unit
kind_of BoolKind = bool
kind_of CharKind = char
kind_of (Number integer) = number (integer_of integer).0 (integer_of integer).1
kind_of (NonZero integer) = non_zero (integer_of integer).0 (integer_of integer).1
kind_of (RawRel integer) = raw_rel (integer_of integer).0 (integer_of integer).1

-- The key.
abbrev pub key_of : KeyExpr → Key
key_of (key.Leaf kind) = leaf_key (kind_of kind)
key_of key.Str = str_key

abbrev pub flavor_of : FlavorInfo → Flavor
flavor_of f = record { name = f.name.now; cycles = f.cycles }

abbrev mutual
  -- The shape of an expression.
  pub shape_of : Expr → Shape
  shape_of (expr.Leaf kind) = leaf (kind_of kind)
  shape_of (expr.Record' v row) = parts (shapes_of row)
  shape_of (expr.Choice' name v rows) = choice name.now (variants_of rows)
  shape_of (expr.Array' n p x) = array n (shape_of x)
  shape_of (expr.Box' p x) = boxed (pointee_of x)
  shape_of (expr.Vec' p x) = vec (shape_of x)
  shape_of (expr.Map' k p x) = sorted_map (key_of k) (shape_of x)
  shape_of expr.Str = str
  shape_of (expr.Shared' f p x) = shared (flavor_of f) (pointee_of x)
  shape_of (expr.Weak' f p x) = weak (flavor_of f) (pointee_of x)
  shape_of (expr.Named name) = named name.now

  -- What a pointer leads to.
  pub pointee_of : PointeeExpr → Pointee
  pointee_of (pointee.One x) = one (shape_of x)
  pointee_of (pointee.Run x) = run (shape_of x)
  pointee_of pointee.Text = text

  pub shapes_of : {n : _} → Row_of-Expr n → Parts
  shapes_of end_of-Expr = no_part
  shapes_of (more_of-Expr x rest) = part (shape_of x) (shapes_of rest)

  pub variants_of : {n : _} → Row_of-Expr-Choice-1-1 n → Variants
  variants_of end_of-Expr-Choice-1-1 = no_variant
  variants_of (more_of-Expr-Choice-1-1 v row rest) = variant (shapes_of row) (variants_of rest)

-- The shapes of a list of expressions.
abbrev pub shapes_in : List Expr → Parts
shapes_in [] = no_part
shapes_in (x ∷ xs) = part (shape_of x) (shapes_in xs)

-- The variants of a list of lists of them.
abbrev pub variants_in : List (RustVec Expr Global) → Variants
variants_in [] = no_variant
variants_in (v ∷ vs) = variant (shapes_in v.items) (variants_in vs)

-- Each name with the shape of its expression.
abbrev pub entries_of : List Def → Table
entries_of [] = []
entries_of (d ∷ ds) = (d.name.now, shape_of d.expr) ∷ entries_of ds

abbrev pub table_of : Defs → Table
table_of defs = entries_of defs.items.items
