use Rattle.std.proofs.Common.{◌≡◌, ◌∙◌, ap, length, arith}
use Rattle.std.proofs.lemmas.Grind.{common_steps}
use Rattle.std.specs.Vec.{vec_len}
use Rattle.archive_check.specs.Definitions.{no_definition}
use Rattle.archive_check.specs.Layout.{kind_size}
use Rattle.archive_check.specs.Value.{number}
use Rattle.archive_types.proofs.Reading.FirstRead.{leaves_read}
use Rattle.archive_types.proofs.primitive.LittleEndianAnyDeserializeAnyAny.deserialize_first.Goals as goal

pub read_blocks-requires-clause-viewed : goal.read_blocks-requires-clause-viewed
read_blocks-requires-clause-viewed g c =
    let step : c.args.step ≡ kind_size g.N.Native.kind = c.if-step-size.true ∙ c.size.ensures ∙ ap kind_size c.kind.ensures in
    rw step at c.requires.viewed

pub returns-then-step-size-clause-read : goal.returns-then-step-size-clause-read
returns-then-step-size-clause-read g c =
    let step : c.args.step ≡ kind_size g.N.Native.kind = c.if-step-size.true ∙ c.size.ensures ∙ ap kind_size c.kind.ensures in
    let items = c.read_blocks.new.items in
    let whole : length items.items ≡ vec_len items = grind (arith, common_steps) in
    rw step
    (leaves_read no_definition c.args.bytes.now c.args.pos (kind_size g.N.Native.kind) g.N.Native.kind (λ n. number (g.N.Native.value_of n)) items.items (vec_len items) whole
    c.read_blocks.ensures.said)
