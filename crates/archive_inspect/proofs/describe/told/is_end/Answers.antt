use Rattle.std.proofs.Common.{◌≡◌, ap, arith, sym, ◌∙◌}
use Rattle.archive_inspect.specs.Points.{end_of_way}
use Rattle.archive_inspect.proofs.Searched.{leaf_empty, leaf_there, text_empty, text_there, string_there, null_there}
use Rattle.archive_inspect.proofs.describe.told.is_end.Goals as goal

pub returns-then-size-eq0 : goal.returns-then-size-eq0
returns-then-size-eq0 c = λ t s.
    let none : c.size.result ≡ 0 = omega arith in
    leaf_empty c.args.bytes.now c.args.pieces.now c.args.point s c.in-Some.ensures (sym c.size.ensures ∙ none)

pub returns-else-size-eq0 : goal.returns-else-size-eq0
returns-else-size-eq0 c = λ t s. leaf_there c.args.bytes.now c.args.pieces.now c.args.point s c.in-Some.ensures (c.is_told.ensures t)

pub returns-then-length-eq0 : goal.returns-then-length-eq0
returns-then-length-eq0 c = λ t s.
    let none : c.in-Text.length ≡ 0 = omega arith in
    text_empty c.args.bytes.now c.args.pieces.now c.args.point s (ap end_of_way c.in-Text.is) none

pub returns-else-length-eq0 : goal.returns-else-length-eq0
returns-else-length-eq0 c = λ t s. text_there c.args.bytes.now c.args.pieces.now c.args.point s (ap end_of_way c.in-Text.is) (c.is_told-else-length-eq0.ensures t)

pub returns-then-is_inline : goal.returns-then-is_inline
returns-then-is_inline c = λ t s.
    string_there c.args.bytes.now c.args.pieces.now c.args.point s (c.is_inline.ensures.string c.if-is_inline.true) (c.is_inline.ensures.inline c.if-is_inline.true) (c.is_told-then-is_inline.ensures t)

pub returns : goal.returns
returns c = λ t s. null_there c.args.bytes.now c.args.pieces.now c.args.point s (c.is_null.ensures t)
