-- The coded length of a text that stands elsewhere.
use Rattle.std.proofs.Common.{◌≡◌, ℕ, ◌+◌, ◌*◌, ◌/◌, ◌%◌, ◌≤◌, ap, ◌∙◌, arith}
use Rattle.std.proofs.lemmas.Nat.{and_mask}
use Rattle.std.proofs.lemmas.Nat.Bits.{and_high_mask}
use Rattle.std.specs.Int.Bits.{bit_and, bit_or, or_shifted_r}
use Rattle.archive_num.specs.StringBytes.{coded_length}

-- as the original writes it
pub coded_bits : (n : ℕ) → n ≤ 1073741823 → bit_or (bit_or (bit_and n 63) 128) (bit_and n 18446744073709551552 * 4 % 18446744073709551616) ≡ coded_length n
coded_bits n h =
    let low : bit_and n 63 ≡ n % 64 = and_mask n 6 in
    let high : bit_and n 18446744073709551552 ≡ n / 64 * 64 = and_high_mask 64 6 (omega arith) n (omega arith) in
    let moved : bit_and n 18446744073709551552 * 4 % 18446744073709551616 ≡ n / 64 * 256 = omega (arith, high) in
    let tag : bit_or (n % 64) 128 ≡ 128 + n % 64 = or_shifted_r 1 7 (n % 64) (omega arith) in
    let all : bit_or (128 + n % 64) (n / 64 * 256) ≡ n / 64 * 256 + (128 + n % 64) = or_shifted_r (n / 64) 8 (128 + n % 64) (omega arith) in
    let end : n / 64 * 256 + (128 + n % 64) ≡ coded_length n = omega arith in
    ap (λ x. bit_or (bit_or x 128) (bit_and n 18446744073709551552 * 4 % 18446744073709551616)) low ∙ ap (λ x. bit_or (bit_or (n % 64) 128) x) moved ∙ ap (λ x. bit_or x (n / 64 * 256)) tag ∙ all ∙ end
