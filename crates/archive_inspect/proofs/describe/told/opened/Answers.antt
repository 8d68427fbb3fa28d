use Rattle.std.proofs.Common.{subst, sym}
use Rattle.archive_inspect.specs.Opened.{Opened}
use Rattle.archive_inspect.specs.Points.{end_of_way}
use Rattle.archive_inspect.proofs.Searched.{found_then, opens_record, opens_payload, opens_choice, opens_array, opens_map, opens_pointer}
use Rattle.archive_inspect.proofs.describe.told.opened.Goals as goal

pub returns-then-is_end : goal.returns-then-is_end
returns-then-is_end c = λ s know.
    subst (λ l. Opened s c.args.bytes.now c.args.pieces.now l c.args.point.at (end_of_way c.args.point.thing)) (sym c.new.ensures.items) (c.is_end.ensures c.if-is_end.true s)

pub returns-in-Some : goal.returns-in-Some
returns-in-Some c = found_then c.parts_at.result c.parts_at.ensures (λ xs h. opens_record c.args.form.now.schema c.args.bytes.now c.args.pieces.now c.args.point xs.items c.in-Some.ensures h)

pub returns-in-Some-payload_of : goal.returns-in-Some-payload_of
returns-in-Some-payload_of c = found_then c.parts_at-in-Some-payload_of.result c.parts_at-in-Some-payload_of.ensures (λ xs h. opens_payload c.args.form.now.schema c.args.bytes.now c.args.pieces.now c.args.point xs.items c.in-Some-payload_of.ensures h)

pub returns-in-Some-choice_of : goal.returns-in-Some-choice_of
returns-in-Some-choice_of c = found_then c.payload_at.result c.payload_at.ensures (λ xs h. opens_choice c.args.form.now.schema c.args.bytes.now c.args.pieces.now c.args.point xs.items c.in-Some-choice_of.ensures h)

pub returns-in-Some-array_of : goal.returns-in-Some-array_of
returns-in-Some-array_of c = found_then c.elements_at.result c.elements_at.ensures (λ xs h. opens_array c.args.form.now.schema c.args.bytes.now c.args.pieces.now c.args.point xs.items c.in-Some-array_of.ensures h)

pub returns-in-Some-map_of : goal.returns-in-Some-map_of
returns-in-Some-map_of c = found_then c.entries_at.result c.entries_at.ensures (λ xs h. opens_map c.args.form.now.schema c.args.bytes.now c.args.pieces.now c.args.point xs.items c.in-Some-map_of.ensures h)

pub returns-in-Some-pointing_at : goal.returns-in-Some-pointing_at
returns-in-Some-pointing_at c = found_then c.target_of.result c.target_of.ensures (λ xs h. opens_pointer c.args.form.now.schema c.args.bytes.now c.args.pieces.now c.args.point xs.items c.in-Some-pointing_at.ensures h)
