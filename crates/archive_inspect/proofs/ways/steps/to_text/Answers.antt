use Rattle.std.proofs.Common.{refl, rules}
use Rattle.archive_inspect.specs.declared.ways.Thing.TheVariants as thing
use Rattle.archive_inspect.proofs.WaySteps.{text_step}
use Rattle.archive_inspect.proofs.ways.steps.to_text.Goals as goal

pub returns-then-leads_to_text : goal.returns-then-leads_to_text
returns-then-leads_to_text c = text_step c.args.form.now.schema c.args.bytes.now c.args.from (record { at = c.in_ok-place.place; thing = thing.Text c.in_ok-pointer.pointer.length })
    c.in_ok-pointer.ensures c.in_ok-place.ensures (c.leads_to_text.ensures (search rules)) refl
