-- What an entry of a map takes, by its key and its value.
use Rattle.std.proofs.Common.{◌≡◌, refl, ap, ap₂, ◌∙◌, ◌+◌, ◌<◌, max, arith}
use Rattle.archive_check.specs.Shape.{Key, leaf_key, str_key, Shape, key_shape, entry_of}
use Rattle.archive_check.specs.Layout.{Layouts, up, key_size, key_align, size_of, align_of}
use Rattle.archive_check.proofs.Maps.Entries.{value_at}

-- a key takes what its shape does
pub key_takes : (names : Layouts) (K : Key) → size_of names (key_shape K) ≡ key_size K
key_takes names (leaf_key kind) = refl
key_takes names str_key = refl

key_aligned : (names : Layouts) (K : Key) → align_of names (key_shape K) ≡ key_align K
key_aligned names (leaf_key kind) = refl
key_aligned names str_key = refl

-- the value stands at the next multiple of its alignment, and the whole ends at one of the greater
pub entry_layout : (names : Layouts) (K : Key) (V : Shape) → 0 < align_of names V
    → (size_of names (entry_of K V) ≡ up (up (key_size K) (align_of names V) + size_of names V) (max (key_align K) (align_of names V))) × (align_of names (entry_of K V) ≡ max (key_align K) (align_of names V))
entry_layout names K V lt =
    let high : max (align_of names (key_shape K)) (max (align_of names V) 1) ≡ max (key_align K) (align_of names V) = omega (arith, key_aligned names K, lt) in
    (ap₂ up (ap (λ n. n + size_of names V) (value_at names K V ∙ ap (λ n. up n (align_of names V)) (key_takes names K))) high, high)
