-- The checks of what owns a region, as boxes and vectors do: the laws of their types, from those of what lies there.
use Rattle.std.specs.Prelude.{◌≡◌, ℕ, Bool, true}
use Rattle.std.proofs.Common.{refl, ◌∙◌}
use Rattle.archive_check.specs.Shape.{Shape, boxed, vec, Pointee, one, run, text, Table}
use Rattle.archive_check.specs.Layout.{pointer_size}
use Rattle.archive_check.specs.Reads.{SchemaTable}
use Rattle.archive_check.specs.Walk.{walk_boxed, walk_vec}
use Rattle.archive_check.specs.Trail.{trips_boxed, trips_vec}
use Rattle.archive_check.specs.Outcomes.{done, refused}
use Rattle.archive_check.specs.Defined.{mentions_boxed, mentions_vec, mentions_one, mentions_run}
use Rattle.archive_check.specs.Definitions.{Definitions, no_definition, NoOthers}
use Rattle.archive_check.specs.Members.NoOthers.{around_reached}
use Rattle.archive_check.specs.SelfCheck.Orders.{IsOrder}
use Rattle.archive_check.specs.SelfCheck.Laws.{IsCheckOf, ChecksAs, own_check, plain_check, no_more}
use Rattle.archive_check.specs.MissingNames.{missing}

-- an order of what lies there is one of the owner, which mentions the same names.
pub owned_order : (D : Definitions) (X Y : Shape) (order : Table) → missing true order Y ≡ missing true order X → IsOrder D X order → IsOrder D Y order
owned_order D X Y order same o = record { has = o.has; only = o.only; once = o.once; root = same ∙ o.root; closed = o.closed; placed = o.placed }

-- from the law of an X, with definitions E, shape Y and n bytes for its check, and whether that is nameless
module _ (D : Definitions) (X : Shape) (size : ℕ) (E : Definitions) (Y : Shape) (n : ℕ) (nameless : Bool) where
  -- A vector of them.
  pub vec_check : IsCheckOf D X size E Y n nameless → IsCheckOf D (vec X) 8 D (vec X) 8 nameless
  vec_check c = own_check D (vec X) 8 c.order nameless refl (owned_order D X (vec X) c.order refl c.ordered) c.plain

  -- A box of one.
  pub one_check : (P : Pointee) → P ≡ one X → IsCheckOf D X size E Y n nameless → IsCheckOf D (boxed P) (pointer_size P) D (boxed (one X)) 4 nameless
  one_check P is c = rw is (own_check D (boxed (one X)) 4 c.order nameless refl (owned_order D X (boxed (one X)) c.order refl c.ordered) c.plain)

  -- What comes of a vector comes of a box of a slice.
  vec_checks_as : (t : SchemaTable) → ChecksAs t (vec X) (boxed (run X))
  vec_checks_as t bytes p pending depth stop start seen (done l k) (walk_vec w) = walk_boxed w
  vec_checks_as t bytes p pending depth stop start seen (refused f) (trips_vec w) = trips_boxed w

  -- So it is checked as a vector.
  pub run_check : IsCheckOf D X size E Y n nameless → IsCheckOf D (boxed (run X)) 8 D (vec X) 8 nameless
  run_check c = record {
    within = no_more 8;
    small = refl;
    order = c.order;
    ordered = owned_order D X (boxed (run X)) c.order refl c.ordered;
    known = λ t k. k;
    leads = λ t k. vec_checks_as t;
    plain = c.plain;
  }

-- A box of a text.
pub text_check : {nameless : Bool} → IsCheckOf no_definition (boxed text) 8 no_definition (boxed text) 8 nameless
text_check = plain_check (boxed text) 8 refl refl

-- each name of an X, which it reaches, is reached by its owner
module _ (D : Definitions) (X : Shape) (reached : NoOthers D X) where
  pub one_reaches : (P : Pointee) → P ≡ one X → NoOthers D (boxed P)
  one_reaches P is = rw is (around_reached D X (boxed (one X)) (λ n m. mentions_boxed (mentions_one m)) reached)

  pub run_reaches : NoOthers D (boxed (run X))
  run_reaches = around_reached D X (boxed (run X)) (λ n m. mentions_boxed (mentions_run m)) reached

  pub vec_reaches : NoOthers D (vec X)
  vec_reaches = around_reached D X (vec X) (λ n m. mentions_vec m) reached
