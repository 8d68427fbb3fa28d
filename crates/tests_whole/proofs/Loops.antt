-- A value that is a shared value of its own type is refused as what its pointer leads to is.
use Rattle.std.proofs.Common.{◌≡◌, ℕ, ◌+◌, List, slice_index, refl, Some, None, Bool, true, false}
use Rattle.archive_core.specs.Error.{Error}
use Rattle.archive_core.specs.Error.TheVariants.{CyclicDeserialize}
use Rattle.archive_core.specs.Shape.{choice, one}
use Rattle.archive_core.specs.Readable.{target_from}
use Rattle.archive_core.specs.Pooled.{Entries, pooled}
use Rattle.archive_core.specs.Viewed.{Viewed}
use Rattle.archive_core.specs.Entries.{NoEntries, RefusesReading}
use Rattle.archive_core.specs.Pooling.{IsPut, RefusesShared}
use Rattle.archive_core.proofs.PooledPointers.{shared_unread}
use Rattle.archive_core.proofs.ReadVariants.{case_refuses, named_refuses}
use Rattle.archive_core.proofs.PooledReading.{kept_pending, kept_refused}
use Rattle.tests_whole.specs.LoopShape.{loop_name, loop_shape, loop_flavor, loop_pointer, loop_variants, loop_definitions}

module _ (bytes : List ℕ) (q n : ℕ) (first : slice_index bytes q ≡ 0) (viewed : Viewed loop_definitions bytes (q + 4) (one loop_pointer) 0) where
  -- where its pointer leads
  abbrev there : ℕ
  there = target_from bytes (q + 4) (q + 4)

  by_pointer : (told : Entries) (e : Error) → RefusesShared loop_definitions bytes there (one loop_shape) 0 told e → RefusesReading loop_definitions bytes q (one loop_shape) n told e
  by_pointer told e h = named_refuses loop_definitions loop_name (choice loop_name loop_variants) (λ s k. k.has) bytes q n told e
      (case_refuses loop_definitions loop_definitions (λ s k. k) loop_name loop_variants 0 loop_pointer refl (record { size = 4; align = 4 }) (record { solved = λ s k. refl }) bytes q 0 4 refl first told e
      (shared_unread loop_definitions bytes (q + 4) 0 loop_flavor (one loop_shape) told e viewed h))

  pub pending_there : (keeps : Bool) (told : Entries) → told there ≡ Some None → RefusesReading loop_definitions bytes q (one loop_shape) n told CyclicDeserialize
  pending_there keeps told pending = by_pointer told CyclicDeserialize (kept_pending loop_definitions bytes there (one loop_shape) 0 keeps told pending)

  pub refused_there : (keeps : Bool) (old started : Entries) (e : Error) → (keeps ≡ false → NoEntries old) → (keeps ≡ false → NoEntries started) → (keeps ≡ true → IsPut old there (pooled (old there)) started) → old there ≡ None
      → RefusesReading loop_definitions bytes there (one loop_shape) 0 started e → RefusesReading loop_definitions bytes q (one loop_shape) n old e
  refused_there keeps old started e nothing begun after unknown h = by_pointer old e (kept_refused loop_definitions bytes there (one loop_shape) 0 keeps old started e nothing begun after unknown h)
