use Rattle.std.proofs.Common.{◌∙◌, refl, arith}
use Rattle.std.proofs.lemmas.List.{length-set}
use Rattle.archive_check.specs.Definitions.{no_definition}
use Rattle.archive_check.specs.Layout.{kind_size}
use Rattle.archive_check.specs.Shape.{leaf, one}
use Rattle.archive_check.specs.Value.{number}
use Rattle.archive_types.proofs.Reading.FirstRead.{said_set}
use Rattle.archive_types.proofs.primitive.blocks.block_at.Goals as goal

pub loop-index-init : goal.loop-index-init
loop-index-init g c = (refl, λ k d below. absurd (omega (arith, below)))

pub loop-index-preserved : goal.loop-index-preserved
loop-index-preserved g c =
    let kept = c.loop-index.invariant in
    let says = rw (c.element_at-element.ensures.buffer, c.element_at-element.ensures.position, c.element_at-element.ensures.length) at c.get.ensures.says in (
      length-set c.loop-index.block c.loop-index.index c.get.result ∙ kept.0,
      said_set no_definition c.args.bytes.now c.args.pos (kind_size g.N.Native.kind) (one (leaf g.N.Native.kind)) (λ n. number (g.N.Native.value_of n)) c.args.from c.loop-index.index
          c.loop-index.block c.get.result (omega (arith, kept.0, c.loop-index-test.true)) kept.1 says,
    )
