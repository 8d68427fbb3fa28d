-- A name with its definition, and its laws.
use Rattle.std.proofs.Common.{◌≡◌, ◌≢◌, ◌∙◌, ap, subst, refl, zero, suc, arith}
use Rattle.archive_check.specs.Shape.{Name, unit, Shape, leaf, named, bool}
use Rattle.archive_check.specs.Layout.{Layout, layout}
use Rattle.archive_check.specs.Reads.{SchemaTable}
use Rattle.archive_check.specs.Defined.{Holds, held, mentions_held, holds_name, Involves, involves}
use Rattle.archive_check.specs.Definitions.{defines, both, listed, Knows, NoOthers, HasLayout}

-- The name has the layout of its definition.
pub name_has_layout : (name : Name) (X : Shape) (L : Layout) → ((s : SchemaTable) → Knows s (defines name X) → layout s.layouts X ≡ L) → HasLayout (defines name X) (named name) L
name_has_layout name X L h = record { solved = λ s k. k.laid_out.solves name X k.has ∙ h s k }

-- And no definition is brought but its own, which it reaches.
pub name_reached : (name : Name) (X : Shape) → NoOthers (defines name X) (named name)
name_reached name X n Y (zero, l, e) = subst (λ m. Involves (listed (defines name X)) m (named name)) (ap (λ (p : Name × Shape). p.0) e) (involves (mentions_held holds_name))
name_reached name X n Y (suc k, l, e) = absurd (omega (arith, l))

-- No schema knows a name that contains itself, so it may have any layout.
pub held_has_layout : (name : Name) (X : Shape) (L : Layout) → Holds name X → HasLayout (defines name X) (named name) L
held_has_layout name X L h = record { solved = λ s k. absurd (k.finite name X (zero, omega arith, refl) (held h)) }

-- Nor does one know a name with two definitions.
pub twice_has_layout : (name : Name) (X Y : Shape) (L : Layout) → X ≢ Y → HasLayout (both (defines name X) (defines name Y)) (named name) L
twice_has_layout name X Y L n = record { solved = λ s k. absurd (n (cc (k.has.0, k.has.1))) }

-- And both are reached.
pub twice_reached : (name : Name) (X Y : Shape) → NoOthers (both (defines name X) (defines name Y)) (named name)
twice_reached name X Y n Z (zero, l, e) = subst (λ m. Involves (listed (both (defines name X) (defines name Y))) m (named name)) (ap (λ (p : Name × Shape). p.0) e) (involves (mentions_held holds_name))
twice_reached name X Y n Z (suc zero, l, e) = subst (λ m. Involves (listed (both (defines name X) (defines name Y))) m (named name)) (ap (λ (p : Name × Shape). p.0) e) (involves (mentions_held holds_name))
twice_reached name X Y n Z (suc (suc k), l, e) = absurd (omega (arith, l))

-- Nothing is no bool.
pub leaves_differ : leaf unit ≢ leaf bool
leaves_differ e = cc
