-- The states of keys: that of the first one lies beside a map of the others.
use Rattle.std.specs.Prelude.{ℕ, cond, Option, Some, None, Box, nat_eq}
use Rattle.std.specs.HashMap.{get, spare}
use Rattle.archive_check.specs.WriterState.{KeyStates, no_keys}
use Rattle.archive_write.specs.declared.known.FirstKey.{FirstKey}
use Rattle.archive_write.specs.declared.known.KnownKeys.{KnownKeys}

-- These states, and that of the first key, if there is one.
abbrev pub with_first : Option FirstKey → KeyStates → KeyStates
with_first None states key = states key
with_first (Some first) states key = cond (nat_eq first.key key) (Some first.state) (states key)

-- The states of all keys.
unfoldable pub key_states : {A : Type 0} → KnownKeys A → KeyStates
key_states known = with_first known.first (get nat_eq known.others.states)

-- How many keys there is room for without more memory.
abbrev pub spare_of : {A : Type 0} → KnownKeys A → ℕ
spare_of known = spare known.others.states

-- The states that are kept; none where nothing is kept yet.
abbrev pub known_keys : {A B : Type 0} → Option (Box (KnownKeys A) B) → KeyStates
known_keys None = no_keys
known_keys (Some known) = key_states known.value

-- How many keys it takes without more memory.
abbrev pub spare_keys : {A B : Type 0} → Option (Box (KnownKeys A) B) → ℕ
spare_keys None = 0
spare_keys (Some known) = spare_of known.value
