-- The bytes of arrays, one behind another, are those of all their elements.
use Rattle.std.proofs.Common.{◌≡◌, ℕ, List, [], ◌∷◌, ◌++◌, refl, sym, ap, ◌∙◌, append_assoc}
use Rattle.std.specs.List.{flat_map}
use Rattle.archive_types.specs.Copies.{each_bytes}

module _ {A : Type 0} (b : A → List ℕ) where
  bytes_behind : (xs ys : List A) → each_bytes b (xs ++ ys) ≡ each_bytes b xs ++ each_bytes b ys
  bytes_behind [] ys = refl
  bytes_behind (x ∷ xs) ys = ap (λ z. b x ++ z) (bytes_behind xs ys) ∙ sym (append_assoc (b x) (each_bytes b xs) (each_bytes b ys))

  pub arrays_bytes : (xss : List (List A)) → each_bytes b (flat_map (λ xs. xs) xss) ≡ each_bytes (each_bytes b) xss
  arrays_bytes [] = refl
  arrays_bytes (xs ∷ xss) = bytes_behind xs (flat_map (λ x. x) xss) ∙ ap (λ z. each_bytes b xs ++ z) (arrays_bytes xss)
