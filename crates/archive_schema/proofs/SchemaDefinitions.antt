-- The definitions that a schema keeps: which other schemas know them, and what they give its root.
use Rattle.std.proofs.Common.{◌≡◌, ◌∷◌, [], refl, sym, ap, ◌∙◌, subst, Some, None, true, Contains}
use Rattle.std.proofs.Math.Logic.{∥∥₁_elim, ∥∥₁_map, ∥∥₁_prop}
use Rattle.archive_schema.specs.declared.shape.Schema.{Schema as RustSchema}
use Rattle.archive_check.specs.Shape.{Name, Shape, Table, definition}
use Rattle.archive_check.specs.Expressions.{entries_of}
use Rattle.archive_check.specs.MissingNames.{missing, Arranged}
use Rattle.archive_check.specs.Reads.{SchemaTable, LaidOut}
use Rattle.archive_check.specs.Defined.{HeldIn, held, held_through, WellFormed}
use Rattle.archive_check.specs.Definitions.{listed, Has, Knows}
use Rattle.archive_schema.specs.Schemas.{root_of, defined_by, definitions_in, HasMeaning}
use Rattle.archive_schema.specs.OneSchema.{WellFormed-prop}
use Rattle.archive_check.proofs.Elements.{contains_first, contains_later}
use Rattle.archive_check.proofs.Names.MissingNames.{held_defined}
use Rattle.archive_check.proofs.Names.WellFormed.{found_stands, reached_within, arranged_never}
use Rattle.archive_check.proofs.Archives.{has_each}

-- what a table lists is the table
pub listed_defined : (table : Table) → listed (defined_by table) ≡ table
listed_defined [] = refl
listed_defined (d ∷ ds) = ap (λ table. d ∷ table) (listed_defined ds)

pub listed_in : (s : RustSchema) → listed (definitions_in s) ≡ entries_of s.definitions.items
listed_in s = listed_defined (entries_of s.definitions.items)

-- a schema that has each has them
pub defined_has : (t : SchemaTable) (table : Table) → ((name : Name) (Y : Shape) → Contains (listed (defined_by table)) (name, Y) → definition t.table name ≡ Some Y) → Has t (defined_by table)
defined_has t [] h = tt
defined_has t (d ∷ ds) h = (h d.0 d.1 (contains_first (listed (defined_by ds)) d), defined_has t ds (λ name Y c. h name Y (contains_later d (listed (defined_by ds)) (name, Y) c)))

module _ (table : Table) (t : SchemaTable) where
  -- what knows a table's definitions has each, and its layouts are theirs
  pub knows_own : Knows t (defined_by table) → (name : Name) (Y : Shape) → definition table name ≡ Some Y → definition t.table name ≡ Some Y
  knows_own k name Y e = has_each t (defined_by table) k.has name Y (subst (λ l. Contains l (name, Y)) (sym (listed_defined table)) (found_stands table name Y e))

  pub own_laid_out : Knows t (defined_by table) → LaidOut (record { table = table; layouts = t.layouts })
  own_laid_out k = record { solves = λ name Y e. k.laid_out.solves name Y (knows_own k name Y e); aligned = k.laid_out.aligned }

-- In a table that defines each name once, after those that it holds:
module _ (table : Table) (arranged : Arranged table table) (closed : (name : Name) (Y : Shape) → definition table name ≡ Some Y → missing true table Y ≡ None) where
  own_once : (name : Name) (Y : Shape) → Contains (listed (defined_by table)) (name, Y) → definition table name ≡ Some Y
  own_once name Y c = arranged.once name Y (subst (λ l. Contains l (name, Y)) (listed_defined table) c)

  -- what mentions defined names alone is well formed
  pub own_well_formed : (X : Shape) → missing true table X ≡ None → WellFormed (listed (defined_by table)) X
  own_well_formed X none = subst (λ l. WellFormed l X) (sym (listed_defined table)) (record {
    defined = λ n r. let (Y, e) = reached_within table table (λ m Z f. f) closed r none in (Y, e, λ Z c. (let f = arranged.once n Z c in cc));
    finite = λ n Y r e h. arranged_never table table arranged n Y e h;
  })

  module _ (t : SchemaTable) (has : (name : Name) (Y : Shape) → definition table name ≡ Some Y → definition t.table name ≡ Some Y) where
    -- what is held under more definitions is held under the table's own
    held_own : {n : Name} {X : Shape} → HeldIn t.table n X → missing true table X ≡ None → HeldIn table n X
    held_own (held h) none = held h
    held_own (held_through {Y = Y} {n = m} h d r) none =
        let (Z, e) = held_defined table true m h none in
        let f : definition t.table m ≡ Some Z = has m Z e in
        let same : Z ≡ Y = cc in
        held_through h (e ∙ ap Some same) (held_own r (ap (missing true table) (sym same) ∙ closed m Z e))

    -- and what has its definitions, with layouts of theirs, knows them
    pub has_knows : LaidOut t → Knows t (defined_by table)
    has_knows laid = record {
      has = defined_has t table (λ name Y c. has name Y (own_once name Y c));
      finite = λ name Y c h. let e = own_once name Y c in arranged_never table table arranged name Y e (held_own h (closed name Y e));
      laid_out = laid;
    }

-- So what knows a schema's definitions is just what has them, with layouts of theirs; and something does.
pub schema_known : (s : RustSchema) (t : SchemaTable) → ((name : Name) (Y : Shape) → definition (entries_of s.definitions.items) name ≡ Some Y → definition t.table name ≡ Some Y) → LaidOut t → ∥ Knows t (definitions_in s) ∥₁
schema_known s t has laid = ∥∥₁_map s.arranged (λ a. has_knows (entries_of s.definitions.items) a s.complete.closed t has laid)

pub schema_meaning : (s : RustSchema) → HasMeaning s
schema_meaning s = record {
  well_formed = ∥∥₁_elim s.arranged (WellFormed-prop _ _) (λ a. own_well_formed (entries_of s.definitions.items) a s.complete.closed (root_of s) s.complete.root);
  known = ∥∥₁_elim s.laid_out ∥∥₁_prop (λ (t, same, out). ∥∥₁_map (schema_known s t (λ name Y e. rw same e) out) (λ k. (t, k)));
}
