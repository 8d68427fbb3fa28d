-- What is said of seals of a map, and of the values of its entries.
use Rattle.std.specs.Prelude.{◌≡◌, ◌+◌, ◌*◌, ◌<◌, ℕ, List, Option, IfSome, IfNone}
use Rattle.std.specs.declared.cmp.Ordering.{Ordering}
use Rattle.std.specs.declared.cmp.Ordering.TheVariants.{Equal}
use Rattle.archive_check.specs.Layout.{Layout}
use Rattle.archive_check.specs.Shape.{Key, sorted_map, one}
use Rattle.archive_check.specs.Reads.{u32_at}
use Rattle.archive_check.specs.Readable.{target_from}
use Rattle.archive_check.specs.SelfCheck.Maps.{entry_definitions, entry_size}
use Rattle.archive_check.specs.Words.Formats.{FormatOf}
use Rattle.archive_types.specs.Compared.{Standing, standing}
use Rattle.archive_types.specs.Maps.{entry_value_begin}
use Rattle.archive_core.specs.SealOutcomes.{IsSealOf, SealsPart}
use Rattle.archive_core.specs.declared.seal.Seal.{Seal}

-- The seal shows a map, of keys and values of these formats.
abbrev pub IsSealOfMap : {T M N : Type 0} → FormatOf M → FormatOf N → Key → Seal T → Type 0
IsSealOfMap f g K v = IsSealOf (entry_definitions f.definitions g.definitions) (one (sorted_map K g.shape)) v

-- Where the value of the entry i of the map at p stands, of keys and values with these layouts.
abbrev pub entry_value : Layout → Layout → List ℕ → ℕ → ℕ → ℕ
entry_value k v bytes p i = target_from bytes p p + i * entry_size k v + entry_value_begin k v

-- Of the map that the first seal shows, the second one shows the value of the entry i.
abbrev pub SealsEntry : {T U M N : Type 0} → FormatOf M → FormatOf N → Key → ℕ → Seal T → Seal U → Type 0
SealsEntry f g K i v u =
    SealsPart (entry_definitions f.definitions g.definitions) (one (sorted_map K g.shape)) g.definitions g.pointee (entry_value f.layout g.layout v.bytes.now v.pos i) 0 v u

-- By this order of keys and values of the machine, the key of the entry i of the map at p, of entries of z bytes, equals q.
abbrev pub IsKeyAt : {Q : Type 0} → (Standing → Q → Ordering) → ℕ → List ℕ → ℕ → Q → ℕ → Type 0
IsKeyAt R z bytes p q i = (i < u32_at bytes (p + 4)) × (R (standing bytes (target_from bytes p p + i * z) 0) q ≡ Equal)

-- What is left is the seal of the value of an entry whose key equals q, if there is one.
pub record SealsFound {T U M N Q : Type 0} (f : FormatOf M) (g : FormatOf N) (K : Key) (R : Standing → Q → Ordering) (q : Q) (v : Seal T) (o : Option (Seal U)) : Type 0 where
  pub found : IfSome o (λ u. (i : ℕ) × IsKeyAt R (entry_size f.layout g.layout) v.bytes.now v.pos q i × SealsEntry f g K i v u)
  pub none : IfNone o ((i : ℕ) → IsKeyAt R (entry_size f.layout g.layout) v.bytes.now v.pos q i → ⊥)
