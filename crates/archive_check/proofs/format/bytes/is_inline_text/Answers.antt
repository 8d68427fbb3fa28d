use Rattle.std.proofs.Common.{arith, subst, IsAscii}
use Rattle.std.proofs.lemmas.Bool.Decides.{nat_tests}
use Rattle.std.proofs.lemmas.Str.{IsUtf8-from_ascii}
use Rattle.archive_check.specs.Reads.{bytes_at}
use Rattle.archive_check.proofs.format.bytes.is_inline_text.Goals as goal

pub returns-then-ascii_length-length : goal.returns-then-ascii_length-length
returns-then-ascii_length-length c =
    let ascii = subst (λ n. IsAscii (bytes_at c.args.bytes.now c.args.p n)) c.if-ascii_length-length.true c.ascii_length.ensures in
    let text = IsUtf8-from_ascii _ (subst IsAscii c.inline_length-length.ensures.text ascii) in
    (λ same. text, λ utf8. grind (arith, nat_tests))
