-- A type whose definitions are in an order has a meaning.
use Rattle.std.proofs.Common.{◌≡◌, ℕ, zero, suc, ◌<◌, [], ◌∷◌, ◌++◌, length, take, get_or, refl, sym, ap, ◌∙◌, arith, true, false, Some, None, Contains, inr, ⊎_elim, append_assoc}
use Rattle.std.proofs.lemmas.List.{append-nil}
use Rattle.archive_check.specs.Shape.{Name, Shape, Table, definition}
use Rattle.archive_check.specs.Definitions.{Definitions, listed, NoOthers, Extended}
use Rattle.archive_check.specs.Defined.{WellFormed}
use Rattle.archive_check.specs.MissingNames.{missing, Collected, Arranged}
use Rattle.archive_check.specs.SelfCheck.Orders.{AllIn, AllClosed, Placed, IsOrder}
use Rattle.archive_check.proofs.Elements.{contains_cases}
use Rattle.archive_check.proofs.Names.WellFormed.{found_stands, reached_there, well_formed}

all_in : (table xs : Table) → AllIn table xs → (n : Name) (Y : Shape) → Contains xs (n, Y) → definition table n ≡ Some Y
all_in table [] all n Y c = absurd (omega (arith, c.1))
all_in table (d ∷ ds) all n Y c = ⊎_elim
    (λ here. let name : d.0 ≡ n = ap (λ (p : Name × Shape). p.0) here in let shape : d.1 ≡ Y = ap (λ (p : Name × Shape). p.1) here in ap (definition table) (sym name) ∙ all.0 ∙ ap Some shape)
    (λ later. all_in table ds all.1 n Y later)
    (contains_cases d ds (n, Y) c)

all_closed : (table xs : Table) → AllClosed table xs → (n : Name) (Y : Shape) → Contains xs (n, Y) → missing true table Y ≡ None
all_closed table [] all n Y c = absurd (omega (arith, c.1))
all_closed table (d ∷ ds) all n Y c = ⊎_elim
    (λ here. let shape : d.1 ≡ Y = ap (λ (p : Name × Shape). p.1) here in ap (missing true table) (sym shape) ∙ all.0)
    (λ later. all_closed table ds all.1 n Y later)
    (contains_cases d ds (n, Y) c)

all_earlier : (before ds : Table) → Placed before ds → (k : ℕ) (n : Name) (Y : Shape) → k < length ds → (n, Y) ≡ get_or ds k (n, Y) → missing false (before ++ take k ds) Y ≡ None
all_earlier before [] placed k n Y lt is = absurd (omega (arith, lt))
all_earlier before (d ∷ ds) placed zero n Y lt is =
    let shape : Y ≡ d.1 = ap (λ (p : Name × Shape). p.1) is in
    let all : before ++ take 0 (d ∷ ds) ≡ before = append-nil before in
    rw (all, shape) placed.0
all_earlier before (d ∷ ds) placed (suc k) n Y lt is =
    let all : before ++ take (suc k) (d ∷ ds) ≡ (before ++ d ∷ []) ++ take k ds = sym (append_assoc before (d ∷ []) (take k ds)) in
    rw all (all_earlier (before ++ d ∷ []) ds placed.1 k n Y (omega (arith, lt)) is)

module _ (D : Definitions) (X : Shape) (table : Table) (order : IsOrder D X table) (no_others : NoOthers D X) where
  in_listed : (n : Name) (Y : Shape) → definition table n ≡ Some Y → Contains (listed D) (n, Y)
  in_listed n Y e = found_stands (listed D) n Y (all_in (listed D) table order.only n Y (found_stands table n Y e))

  added : Extended [] D table
  added = record { has = all_in table (listed D) order.has; kept = λ n Y e. cc; only = λ n Y e. inr (in_listed n Y e) }

  collected : Collected table X table
  collected = record {
    kept = λ n Y e. e;
    reached = λ n Y e. reached_there (listed D) table (all_in table (listed D) order.has) (no_others n Y (in_listed n Y e));
    once = all_in table table order.once;
    root = order.root;
    closed = λ n Y e. all_closed table table order.closed n Y (found_stands table n Y e);
  }

  arranged : Arranged table table
  arranged = record { same = λ n. refl; once = all_in table table order.once; earlier = λ k n Y lt is. all_earlier [] table order.placed k n Y lt is }

  pub ordered_well : WellFormed (listed D) X
  ordered_well = well_formed D X table added table collected table arranged
