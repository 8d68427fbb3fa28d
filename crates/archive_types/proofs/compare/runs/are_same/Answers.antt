use Rattle.std.proofs.Common.{sym, ◌∙◌}
use Rattle.std.specs.Cmp.Lexicographic.{bytes_decides}
use Rattle.archive_types.proofs.compare.runs.are_same.Goals as goal

pub returns : goal.returns
returns g c h =
    let alike = (bytes_decides c.bytes_of.result.now c.bytes_of-2.result.now).0 (sym c.eq.ensures ∙ h) in
    sym c.bytes_of.ensures ∙ alike ∙ c.bytes_of-2.ensures
