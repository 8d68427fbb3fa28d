use Rattle.std.proofs.lemmas.Str.{IsUtf8-from_ascii}
use Rattle.archive_check.specs.Reads.{bytes_at}
use Rattle.archive_check.proofs.format.bytes.is_text.Goals as goal

pub returns-then-is_short_ascii : goal.returns-then-is_short_ascii
returns-then-is_short_ascii c = (λ short. IsUtf8-from_ascii (bytes_at c.args.bytes.now c.args.p c.args.n) (c.is_short_ascii.ensures short), λ text. c.if-is_short_ascii.true)
