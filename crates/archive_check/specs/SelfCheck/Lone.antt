-- Parts of which at most one brings definitions: these are in an order, since no two can define one name.
use Rattle.std.specs.Prelude.{◌≡◌, ◌⊎◌, ℕ, ◌≤◌, Bool, ◌&&◌, ◌||◌, true, false, [], ◌∷◌, ◌++◌, Option, None, Some, IsTrue, nat_le, nat_lt}
use Rattle.std.proofs.Common.{refl, ap, ◌∙◌, inl, inr, ⊎_elim, subst, arith}
use Rattle.std.proofs.lemmas.Bool.{and_parts}
use Rattle.std.proofs.lemmas.Bool.Decides.{nat_tests}
use Rattle.std.proofs.lemmas.List.{append-nil}
use Rattle.archive_check.specs.Shape.{Name, Shape, leaf, parts, choice, array, boxed, vec, sorted_map, str, shared, weak, named, Pointee, one, run, text, Parts, no_part, part, Variants, no_variant, variant, Table}
use Rattle.archive_check.specs.Definitions.{Definitions, no_definition, both, listed}
use Rattle.archive_check.specs.MissingNames.{or_else, missing, pointee_missing, parts_missing, variants_missing}
use Rattle.archive_check.specs.Words.BoundedSizes.{fits}
use Rattle.archive_check.specs.SelfCheck.Orders.{AllIn, IsOrder}
use Rattle.archive_check.specs.SelfCheck.Laws.{IsCheckOf}

-- The definitions of an X are in some order.
abbrev pub HasOrder : Definitions → Shape → Type 0
HasOrder D X = (order : Table) × IsOrder D X order

-- Parts that check themselves: they bring no definition where they are nameless, and their definitions are in an order where they are lone.
pub record AreOrdered (D : Definitions) (ps : Parts) (nameless lone : Bool) : Type 0 where
  pub plain : IsTrue nameless → IsOrder D (parts ps) []
  pub ordered : IsTrue lone → HasOrder D (parts ps)

-- Whether parts check themselves with no name of their own: each does, they are lone, and their size is below usize::MAX.
abbrev pub tuple_direct : Bool → Bool → ℕ → Bool
tuple_direct direct lone size = (direct && lone) && nat_lt size 18446744073709551615

or_none : (a b : Option Name) → or_else a b ≡ None → (a ≡ None) × (b ≡ None)
or_none None b e = (refl, e)
or_none (Some name) b e = cc

both_none : (a b : Option Name) → a ≡ None → b ≡ None → or_else a b ≡ None
both_none None b e f = f
both_none (Some name) b e f = cc

-- what holds no name misses none, whatever is defined
module _ (table : Table) where
  mutual
    pub none_missing : (X : Shape) → missing true [] X ≡ None → missing true table X ≡ None
    none_missing (leaf kind) e = refl
    none_missing (parts ps) e = none_of_parts ps e
    none_missing (choice name vs) e = none_of_variants vs e
    none_missing (array n X) e = none_missing X e
    none_missing (boxed P) e = none_behind P e
    none_missing (vec X) e = none_missing X e
    none_missing (sorted_map K X) e = none_missing X e
    none_missing str e = refl
    none_missing (shared flavor P) e = none_behind P e
    none_missing (weak flavor P) e = none_behind P e
    none_missing (named name) e = cc

    none_behind : (P : Pointee) → pointee_missing true [] P ≡ None → pointee_missing true table P ≡ None
    none_behind (one X) e = none_missing X e
    none_behind (run X) e = none_missing X e
    none_behind text e = refl

    none_of_parts : (ps : Parts) → parts_missing true [] ps ≡ None → parts_missing true table ps ≡ None
    none_of_parts no_part e = refl
    none_of_parts (part X ps) e =
        let f = or_none (missing true [] X) (parts_missing true [] ps) e in
        both_none (missing true table X) (parts_missing true table ps) (none_missing X f.0) (none_of_parts ps f.1)

    none_of_variants : (vs : Variants) → variants_missing true [] vs ≡ None → variants_missing true table vs ≡ None
    none_of_variants no_variant e = refl
    none_of_variants (variant ps vs) e =
        let f = or_none (parts_missing true [] ps) (variants_missing true [] vs) e in
        both_none (parts_missing true table ps) (variants_missing true table vs) (none_of_parts ps f.0) (none_of_variants vs f.1)

pub none_listed : (ds : Table) → AllIn [] ds → ds ≡ []
none_listed [] h = refl
none_listed (d ∷ ds) h = (let first = h.0 in cc)

-- an order of the same definitions is one of another shape that misses none.
same_order : (D E : Definitions) (X Y : Shape) (order : Table) → listed E ≡ listed D → missing true order Y ≡ None → IsOrder D X order → IsOrder E Y order
same_order D E X Y order same root o = record { has = rw same o.has; only = rw same o.only; once = o.once; root = root; closed = o.closed; placed = o.placed }

-- of two of which one brings no definition, an order of the other's is one of both
module _ (D E : Definitions) (X Y Z : Shape) (order : Table) where
  pub first_order : missing true order Z ≡ None → IsOrder D X order → IsOrder E Y [] → IsOrder (both D E) Z order
  first_order root o none = same_order D (both D E) X Z order (ap (λ ds. listed D ++ ds) (none_listed (listed E) none.has) ∙ append-nil (listed D)) root o

  pub later_order : missing true order Z ≡ None → IsOrder D X [] → IsOrder E Y order → IsOrder (both D E) Z order
  later_order root none o = same_order E (both D E) Y Z order (ap (λ ds. ds ++ listed E) (none_listed (listed D) none.has)) root o

-- what is nameless has no definition in order
module _ {D : Definitions} {X : Shape} {size : ℕ} {E : Definitions} {Y : Shape} {n : ℕ} {nameless : Bool} where
  pub plain_order : IsCheckOf D X size E Y n nameless → IsTrue nameless → IsOrder D X []
  plain_order c says =
      let empty = c.plain says in
      let none : c.order ≡ [] = none_listed c.order (rw empty at c.ordered.only) in
      subst (λ order. IsOrder D X order) none c.ordered

pub or_parts : (a b : Bool) → IsTrue (a || b) → IsTrue a ⊎ IsTrue b
or_parts true b says = inl refl
or_parts false b says = inr says

-- No part.
pub none_ordered : AreOrdered no_definition no_part true true
none_ordered = record {
  plain = λ says. record { has = tt; only = tt; once = tt; root = refl; closed = tt; placed = tt };
  ordered = λ says. ([], record { has = tt; only = tt; once = tt; root = refl; closed = tt; placed = tt });
}

-- one part, and others behind it
module _ (D : Definitions) (X : Shape) (size : ℕ) (E : Definitions) (Y : Shape) (n : ℕ) (nameless : Bool) (F : Definitions) (ps : Parts) (none lone : Bool) where
  first_of : (order : Table) → IsOrder D X order → IsOrder F (parts ps) [] → IsOrder (both D F) (parts (part X ps)) order
  first_of order o rest =
      first_order D F X (parts ps) (parts (part X ps)) order (both_none (missing true order X) (parts_missing true order ps) o.root (none_of_parts order ps rest.root)) o rest

  later_of : (order : Table) → IsOrder D X [] → IsOrder F (parts ps) order → IsOrder (both D F) (parts (part X ps)) order
  later_of order first o =
      later_order D F X (parts ps) (parts (part X ps)) order (both_none (missing true order X) (parts_missing true order ps) (none_missing order X first.root) o.root) first o

  one_ordered : IsCheckOf D X size E Y n nameless → AreOrdered F ps none lone → AreOrdered (both D F) (part X ps) (nameless && none) (none || (nameless && lone))
  one_ordered c r = record {
    plain = λ says. let (first, rest) = and_parts nameless none says in first_of [] (plain_order c first) (r.plain rest);
    ordered = λ says. ⊎_elim
        (λ rest. (c.order, first_of c.order c.ordered (r.plain rest)))
        (λ both_say. let (first, later) = and_parts nameless lone both_say in let o = r.ordered later in (o.0, later_of o.0 (plain_order c first) o.1))
        (or_parts none (nameless && lone) says);
  }

  pub part_ordered : (direct others : Bool) → (IsTrue direct → IsCheckOf D X size E Y n nameless) → (IsTrue others → AreOrdered F ps none lone) → IsTrue (direct && others)
      → AreOrdered (both D F) (part X ps) (nameless && none) (none || (nameless && lone))
  part_ordered direct others c r says = let (first, later) = and_parts direct others says in one_ordered (c first) (r later)

pub small_fits : (n : ℕ) → IsTrue (nat_lt n 18446744073709551615) → fits n ≡ Some n
small_fits n h = grind (arith, nat_tests)

no_longer : (n size : ℕ) → n ≤ size → nat_le n size ≡ true
no_longer n size h = grind (arith, nat_tests)

-- The check of parts with no name of their own.
pub tuple_check : (D : Definitions) (ps : Parts) (size n : ℕ) (direct nameless lone : Bool) → n ≤ size → (IsTrue direct → AreOrdered D ps nameless lone) → IsTrue (tuple_direct direct lone size)
    → IsCheckOf D (parts ps) size D (parts ps) n nameless
tuple_check D ps size n direct nameless lone within h says =
    let (each, small) = and_parts (direct && lone) (nat_lt size 18446744073709551615) says in
    let (own, alone) = and_parts direct lone each in
    let r = h own in
    let o = r.ordered alone in
    record {
      within = no_longer n size within;
      small = small_fits size small;
      order = o.0;
      ordered = o.1;
      known = λ t k. k;
      leads = λ t k bytes p pending depth stop start seen o w. w;
      plain = λ none. none_listed (listed D) (r.plain none).has;
    }
