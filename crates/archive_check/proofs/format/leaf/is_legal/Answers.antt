use Rattle.std.proofs.Common.{◌≤◌, ◌<◌, ℕ, arith, inl, inr, IsTrue, nat_le, refl}
use Rattle.std.proofs.lemmas.Bool.Decides.{nat_tests}
use Rattle.archive_check.specs.Shape.{char}
use Rattle.archive_check.specs.Reads.{IsLegalNumber}
use Rattle.archive_check.specs.Expressions.{integer_of}
use Rattle.archive_check.proofs.format.LegalBytes.{legal_bool, legal_char, legal_non_zero, legal_any}
use Rattle.archive_check.proofs.format.leaf.is_legal.Goals as goal

at_most : (n : ℕ) → IsTrue (nat_le n 1114111) → n ≤ 1114111
at_most n t = grind (arith, nat_tests)

most : (n : ℕ) → 57344 ≤ n → IsLegalNumber char n → IsTrue (nat_le n 1114111)
most n least (inl below) = absurd (omega arith)
most n least (inr within) = let h = within.1 in grind (arith, nat_tests)

not_least : (n : ℕ) → n < 57344 → IsTrue (nat_le 57344 n) → ⊥
not_least n h t = grind (arith, nat_tests)

between : (n : ℕ) → 55296 ≤ n → n < 57344 → IsLegalNumber char n → ⊥
between n h k (inl below) = omega arith
between n h k (inr within) = omega (arith, within.0)

pub returns-in-Bool : goal.returns-in-Bool
returns-in-Bool c = let r = rw c.in-Bool.is at c.requires in rw c.in-Bool.is (legal_bool c.args.bytes.now c.args.at r)

pub returns-then-code-lt55296 : goal.returns-then-code-lt55296
returns-then-code-lt55296 c =
    let r = rw c.in-Char.is at c.requires in
    let l = legal_char c.args.bytes.now c.args.at c.read_u32-code.result r c.read_u32-code.ensures in
    rw c.in-Char.is (λ t. l.0 (inl c.if-code-lt55296.true), λ h. grind (arith, nat_tests))

pub returns-then-code-ge57344 : goal.returns-then-code-ge57344
returns-then-code-ge57344 c =
    let r = rw c.in-Char.is at c.requires in
    let l = legal_char c.args.bytes.now c.args.at c.read_u32-code.result r c.read_u32-code.ensures in
    rw c.in-Char.is (λ t. l.0 (inr (c.if-code-ge57344.true, at_most c.read_u32-code.result t)), λ h. most c.read_u32-code.result c.if-code-ge57344.true (l.1 h))

pub returns-else-code-ge57344 : goal.returns-else-code-ge57344
returns-else-code-ge57344 c =
    let r = rw c.in-Char.is at c.requires in
    let l = legal_char c.args.bytes.now c.args.at c.read_u32-code.result r c.read_u32-code.ensures in
    rw c.in-Char.is (λ t. absurd (not_least c.read_u32-code.result c.if-code-ge57344.false t), λ h. absurd (between c.read_u32-code.result c.if-code-lt55296.false c.if-code-ge57344.false (l.1 h)))

pub returns-in-NonZero : goal.returns-in-NonZero
returns-in-NonZero c =
    let r = rw c.in-NonZero.is at c.requires in
    let l = legal_non_zero (integer_of c.in-NonZero.integer).0 (integer_of c.in-NonZero.integer).1 c.args.bytes.now c.args.at c.size.result c.size.ensures r in
    rw c.in-NonZero.is (λ t. l.0 (c.has_bits.ensures.0 t), λ h. c.has_bits.ensures.1 (l.1 h))

pub returns-in-Unit : goal.returns-in-Unit
returns-in-Unit c = (λ t. legal_any c.args.kind c.args.bytes.now c.args.at c.requires c.in-Unit.is, λ h. refl)
