-- The names in an expression that have no definition, and the definitions that a shape reaches, in order.
use Rattle.std.specs.Prelude.{◌≡◌, ℕ, ◌<◌, Bool, true, false, Option, Some, None, cond, is_some, length, take, get_or, Contains}
use Rattle.archive_check.specs.Defined.{Reaches}
use Rattle.archive_check.specs.Shape.{Name, Shape, parts, choice, array, boxed, vec, sorted_map, shared, weak, named, Pointee, one, run, text, Parts, no_part, part, Variants, no_variant, variant, Table, definition}

-- The first of two.
abbrev pub or_else : Option Name → Option Name → Option Name
or_else None other = other
or_else (Some name) other = Some name

-- The first name that has none; behind pointers too, where `far` says so.
abbrev mutual
  pub missing : Bool → Table → Shape → Option Name
  missing far table (parts ps) = parts_missing far table ps
  missing far table (choice name vs) = variants_missing far table vs
  missing far table (array n X) = missing far table X
  missing far table (boxed P) = cond far (pointee_missing far table P) None
  missing far table (vec X) = cond far (missing far table X) None
  missing far table (sorted_map K V) = cond far (missing far table V) None
  missing far table (shared flavor P) = cond far (pointee_missing far table P) None
  missing far table (weak flavor P) = cond far (pointee_missing far table P) None
  missing far table (named name) = cond (is_some (definition table name)) None (Some name)
  missing far table _ = None

  pub pointee_missing : Bool → Table → Pointee → Option Name
  pointee_missing far table (one X) = missing far table X
  pointee_missing far table (run X) = missing far table X
  pointee_missing far table text = None

  pub parts_missing : Bool → Table → Parts → Option Name
  parts_missing far table no_part = None
  parts_missing far table (part X ps) = or_else (missing far table X) (parts_missing far table ps)

  pub variants_missing : Bool → Table → Variants → Option Name
  variants_missing far table no_variant = None
  variants_missing far table (variant ps vs) = or_else (parts_missing far table ps) (variants_missing far table vs)

-- Of the definitions `old` those that X reaches, each once, and all that they mention with them.
pub record Collected (old : Table) (X : Shape) (new : Table) : Type 0 where
  pub kept : (name : Name) (Y : Shape) → definition new name ≡ Some Y → definition old name ≡ Some Y
  pub reached : (name : Name) (Y : Shape) → definition new name ≡ Some Y → Reaches old name X
  pub once : (name : Name) (Y : Shape) → Contains new (name, Y) → definition new name ≡ Some Y
  pub root : missing true new X ≡ None
  pub closed : (name : Name) (Y : Shape) → definition new name ≡ Some Y → missing true new Y ≡ None

-- The same definitions, each once, and each holds only names that are defined before it.
pub record Arranged (old new : Table) : Type 0 where
  pub same : (name : Name) → definition new name ≡ definition old name
  pub once : (name : Name) (Y : Shape) → Contains new (name, Y) → definition new name ≡ Some Y
  pub earlier : (k : ℕ) (name : Name) (Y : Shape) → k < length new → (name, Y) ≡ get_or new k (name, Y) → missing false (take k new) Y ≡ None
