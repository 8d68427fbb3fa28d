-- That no definition is brought but of names that are reached goes together: of a type that holds others it follows from that of each.
use Rattle.std.proofs.Common.{arith, ⊎_elim, Contains}
use Rattle.std.proofs.lemmas.List.Elements.{Contains-append_left, Contains-append_right, Contains-append_cases}
use Rattle.archive_check.specs.Shape.{Name, Shape, parts, Parts, no_part, part, Table}
use Rattle.archive_check.specs.Defined.{holds_parts, holds_later, Mentions, mentions_held, mentions_parts, mentions_first, mentions_later, Involves, involves, involves_through}
use Rattle.archive_check.specs.Definitions.{Definitions, no_definition, both, listed, NoOthers}

-- More definitions lead no less far.
involves_more : {old new : Table} {name : Name} {X : Shape} → ((n : Name) (Y : Shape) → Contains old (n, Y) → Contains new (n, Y)) → Involves old name X → Involves new name X
involves_more more (involves m) = involves m
involves_more more (involves_through m c i) = involves_through m (more _ _ c) (involves_more more i)

involves_around : {table : Table} {name : Name} {X Y : Shape} → ((n : Name) → Mentions n X → Mentions n Y) → Involves table name X → Involves table name Y
involves_around f (involves m) = involves (f _ m)
involves_around f (involves_through m c i) = involves_through (f _ m) c i

-- A shape that mentions all that another one does.
pub around_reached : (D : Definitions) (X Y : Shape) → ((n : Name) → Mentions n X → Mentions n Y) → NoOthers D X → NoOthers D Y
around_reached D X Y f h name Z c = involves_around f (h name Z c)

-- The definitions of two.
pub both_reached : (D E : Definitions) (X : Shape) → NoOthers D X → NoOthers E X → NoOthers (both D E) X
both_reached D E X h k name Y c = ⊎_elim
    (λ here. involves_more (λ n Z i. Contains-append_left (listed D) (listed E) (n, Z) i) (h name Y here))
    (λ there. involves_more (λ n Z i. Contains-append_right (listed D) (listed E) (n, Z) i) (k name Y there))
    (Contains-append_cases (listed D) (listed E) (name, Y) c)

-- No part.
pub no_parts_reached : NoOthers no_definition (parts no_part)
no_parts_reached name Y c = absurd (omega (arith, c.1))

in_others : (X : Shape) (ps : Parts) (n : Name) → Mentions n (parts ps) → Mentions n (parts (part X ps))
in_others X ps n (mentions_parts m) = mentions_parts (mentions_later m)
in_others X ps n (mentions_held (holds_parts h)) = mentions_held (holds_parts (holds_later h))

-- One part, and others behind it.
pub part_reached : (D E : Definitions) (X : Shape) (ps : Parts) → NoOthers D X → NoOthers E (parts ps) → NoOthers (both D E) (parts (part X ps))
part_reached D E X ps h k =
    both_reached D E (parts (part X ps)) (around_reached D X (parts (part X ps)) (λ n m. mentions_parts (mentions_first m)) h) (around_reached E (parts ps) (parts (part X ps)) (in_others X ps) k)
