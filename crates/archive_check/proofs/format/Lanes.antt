-- The first of some bytes that passes a test, as vectors find it: by the mask of what the test says of each.
use Rattle.std.proofs.Common.{◌≡◌, ℕ, ◌%◌, ◌^◌, ◌≤◌, arith, ap, sym, ◌∙◌, eqb, leb, not, cond, Bool, List, length, map, replicate, w8}
use Rattle.std.proofs.lemmas.Simd.{zip2_splat, zip2_splat_left, bitmask_splat, first_set_mask_l}
use Rattle.std.specs.List.{prefix_len}
use lib.Count.{count_trailing_zeros}
use lib.Lanes.{zip2, mask_l, top}

pub first_lane : (q : ℕ → Bool) (xs : List ℕ) (mask r : ℕ) → length xs ≡ 8 → mask ≡ mask_l (map q xs) → r ≡ cond (eqb mask 0) 8 (count_trailing_zeros 64 mask) → r ≡ prefix_len (λ x. not (q x)) xs
first_lane q xs mask r long same found = found ∙ ap (λ m. cond (eqb m 0) 8 (count_trailing_zeros 64 m)) same ∙ first_set_mask_l q xs 8 long (omega arith)

-- the bytes that are no ASCII
pub others_mask : (xs : List ℕ) (n : ℕ) → length xs ≡ n → n ≤ 64 → mask_l (map (top 7) (zip2 (λ a b. cond (leb a b) 255 0) (replicate n 128) xs)) % 2 ^ 64 ≡ mask_l (map (λ x. leb 128 x) xs)
others_mask xs n long few =
    ap (λ ys. mask_l (map (top 7) ys) % 2 ^ 64) (zip2_splat_left (λ a b. cond (leb a b) 255 0) 128 n xs long ∙ sym (zip2_splat (λ a b. cond (leb b a) 255 0) xs n 128 long))
    ∙ bitmask_splat w8 (λ a b. leb b a) xs n 128 long few
