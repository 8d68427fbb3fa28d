-- Schemas of shapes that are given with a table of definitions: what is taken of it, that it has layouts, and where a root lies.
use Rattle.std.proofs.Common.{◌≡◌, inl, inr, ℕ, ◌-◌, ◌<◌, ◌≤◌, ◌^◌, List, arith, false, Option, length, refl, sym, ap, ◌∙◌, subst, Some, None, Contains}
use Rattle.std.proofs.Math.Logic.{∥∥₁_elim}
use Rattle.std.proofs.Math.Nat.{ℕ_set}
use Rattle.archive_check.specs.declared.format.error.Error.{Error}
use Rattle.archive_schema.specs.declared.shape.Schema.{Schema as RustSchema}
use Rattle.archive_check.specs.Shape.{Name, Shape, named, one, Table, definition}
use Rattle.archive_check.specs.Expressions.{entries_of}
use Rattle.archive_check.specs.Defined.{reaches, mentions_held, holds_name, WellFormed}
use Rattle.archive_check.specs.declared.format.defs.Def.{Def}
use Rattle.archive_check.specs.Layout.{Layout}
use Rattle.archive_check.specs.Members.RegionLayout.{IsLargeRegion}
use Rattle.archive_check.specs.Definitions.{listed, HasLayouts, HasLayout}
use Rattle.archive_check.specs.MissingNames.{Collected, Arranged, missing}
use Rattle.archive_schema.specs.Schemas.{root_of, definitions_in}
use Rattle.archive_schema.specs.plan.Names.{HasAll, ExplainsHeld}
use Rattle.archive_schema.specs.Given.{IsTaken, IsSchemaAmong, ExplainsNoMeaning}
use Rattle.archive_check.proofs.Names.LaidOutNames.{names_of, rounds_solve_reached}
use Rattle.archive_check.proofs.Names.MissingNames.{none_near}
use Rattle.archive_check.proofs.Names.PositiveAlignments.{rounds_pos}
use Rattle.archive_check.proofs.Names.Rounds.{rounds}
use Rattle.archive_check.proofs.Names.WellFormed.{held_more}
use Rattle.archive_schema.proofs.SchemaDefinitions.{listed_defined, listed_in, own_well_formed, schema_meaning}
use Rattle.archive_schema.proofs.plan.PreparedDefinitions.{arranged_complete}

module _ (given : Table) (X : Shape) where
  -- what is collected and put in order is taken
  pub taken : (found : Table) → Collected given X found → (placed : Table) → Arranged found placed → IsTaken given X placed
  taken found c placed a = record {
    known = λ name Y e. c.kept name Y (sym (a.same name) ∙ e);
    complete = arranged_complete given X found placed c a;
    ordered = record { same = λ n. refl; once = a.once; earlier = a.earlier };
  }

  -- what holds itself is why nothing can be put in order
  pub holds_itself : (found : Table) → Collected given X found → (e : Error) → ExplainsHeld found e → ExplainsNoMeaning given X e
  holds_itself found c e (inl memory) = inl memory
  holds_itself found c e (inr (is, name, Y, defined, holds)) =
      inr (inr (is, name, Y, c.reached name Y defined, c.kept name Y defined, held_more found given c.kept holds))

module _ (table : Table) (X : Shape) (all : HasAll table X) (ordered : Arranged table table) where
  own_formed : (name : Name) (Y : Shape) → definition table name ≡ Some Y → WellFormed table (named name)
  own_formed name Y e = subst (λ l. WellFormed l (named name)) (listed_defined table) (own_well_formed table ordered all.closed (named name) (rw e refl))

  -- what has all that it needs has layouts
  pub taken_laid_out : HasLayouts table
  taken_laid_out = ∣ (
    record { table = table; layouts = rounds table (length (names_of table)) },
    refl,
    record {
      solves = λ name Y e. rounds_solve_reached table (named name) (own_formed name Y e) name Y (reaches (mentions_held holds_name)) e;
      aligned = rounds_pos table (length (names_of table));
    },
  ) ∣₁

-- a schema that keeps what is taken has definitions among those given
pub schema_among : (s : RustSchema) (given : Table) (X : Shape) → root_of s ≡ X → IsTaken given X (entries_of s.definitions.items) → IsSchemaAmong s given X
schema_among s given X root t = record {
  root = root;
  known = λ name Y c. t.known name Y (t.ordered.once name Y (subst (λ l. Contains l (name, Y)) (listed_in s) c));
}

-- what is missing in a schema's own list is missing in its definitions
pub missing_here : (s : RustSchema) (X : Shape) (ds : List Def) (found : Option Name) → ds ≡ s.definitions.items → found ≡ missing false (entries_of ds) X
    → found ≡ missing false (listed (definitions_in s)) X
missing_here s X ds found is e = e ∙ ap (λ table. missing false table X) (ap entries_of is ∙ sym (listed_in s))

-- the root holds no name that is missing
pub root_defined : (s : RustSchema) → missing false (listed (definitions_in s)) (root_of s) ≡ None
root_defined s = subst (λ l. missing false l (root_of s) ≡ None) (sym (listed_in s)) (none_near (entries_of s.definitions.items) (root_of s) s.complete.root)

-- Two layouts of the root have one size, and one that is too large leaves no room before the root.
module _ (s : RustSchema) (L : Layout) (known : HasLayout (definitions_in s) (root_of s) L) where
  pub one_size : (M : Layout) → HasLayout (definitions_in s) (root_of s) M → M.size ≡ L.size
  one_size M h = ∥∥₁_elim (schema_meaning s).known (ℕ_set _ _) (λ (t, k). ap (λ l. l.size) (sym (h.solved t k) ∙ known.solved t k))

  pub no_room : (len : ℕ) → len < 2 ^ 64 → IsLargeRegion (definitions_in s) (one (root_of s)) 0 → 0 ≡ len - L.size
  no_room len few large = ∥∥₁_elim (schema_meaning s).known (ℕ_set _ _)
      (λ (t, k). let big : 2 ^ 64 ≤ L.size = subst (λ l. 2 ^ 64 ≤ l.size) (known.solved t k) (large t k) in omega (arith, few, big))
