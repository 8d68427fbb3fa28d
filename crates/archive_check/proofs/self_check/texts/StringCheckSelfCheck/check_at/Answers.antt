use Rattle.std.proofs.Common.{SFits, refl, ◌∙◌, to_z, of_z, None}
use Rattle.std.proofs.lemmas.Int.{to_z-of_z}
use mir.Syntax.{w128}
use Rattle.archive_check.specs.declared.format.error.Error.TheVariants.{InvalidUtf8, InvalidStringRepr}
use Rattle.archive_check.specs.Shape.{text, str}
use Rattle.archive_check.specs.Value.{Pointer}
use Rattle.archive_check.specs.Definitions.{no_definition}
use Rattle.archive_check.specs.Walk.{walk_inline}
use Rattle.archive_check.specs.Trail.{no_text, no_string, trips_short, trips_inline}
use Rattle.archive_check.specs.SelfCheck.Ways.{Halts, enter_way, shape_way}
use Rattle.archive_check.proofs.SelfCheck.Outcomes.{if_none}
use Rattle.archive_check.proofs.Checks.TestedAnswers.{not_true, is_true}
use Rattle.archive_check.proofs.SelfCheck.Ways.{goes_same, goes_by, halts_by}
use Rattle.archive_check.proofs.SelfCheck.Steps.{string_way}
use Rattle.archive_check.proofs.self_check.texts.StringCheckSelfCheck.check_at.Goals as goal

pub returns-then-length-le8-clause-stops : goal.returns-then-length-le8-clause-stops
returns-then-length-le8-clause-stops g c d =
    let s = g.C.Context.state c.args.context.now in
    if_none (λ e. Halts no_definition (shape_way c.args.bytes.now c.args.at str) s e) c.refuse.result c.refuse.new.refusal InvalidStringRepr c.refuse.ensures.fault
    (λ some. (no_string, refl, λ t k pending seen. trips_short (c.is_out_of_line.ensures.0 (is_true c.is_out_of_line.result c.if-is_out_of_line.true)) (rw c.read_coded_length-length.ensures at c.if-length-le8.true)))

pub returns-then-is_out_of_line-clause-through : goal.returns-then-is_out_of_line-clause-through
returns-then-is_out_of_line-clause-through g c =
    let b = c.args.bytes.now in
    let s = g.C.Context.state c.args.context.now in
    let z = to_z w128 (of_z w128 c.read_position-position.result) in
    let n = c.read_coded_length-length.result in
    let p : Pointer = record { target = z; sharing = None; order = None; pointee = text; length = n } in
    let fits : SFits w128 c.read_position-position.result = record { sfits = c.read_position-position.type_inv } in
    let z_is = to_z-of_z w128 c.read_position-position.result fits ∙ c.read_position-position.ensures in
    goes_by no_definition no_definition (enter_way b p) (shape_way b c.args.at str) s (λ t k. k) (λ t k pending seen o w. string_way b t pending s.depth s.end s.start seen c.args.at o (c.is_out_of_line.ensures.0 (is_true c.is_out_of_line.result c.if-is_out_of_line.true)) (rw c.read_coded_length-length.ensures at c.if-length-le8.false) (rw (z_is, c.read_coded_length-length.ensures) at w)) (g.C.Context.state c.check_text.new.context) c.check_text.result c.check_text.ensures.through

pub returns-then-is_out_of_line-clause-stops : goal.returns-then-is_out_of_line-clause-stops
returns-then-is_out_of_line-clause-stops g c d =
    let b = c.args.bytes.now in
    let s = g.C.Context.state c.args.context.now in
    let z = to_z w128 (of_z w128 c.read_position-position.result) in
    let n = c.read_coded_length-length.result in
    let p : Pointer = record { target = z; sharing = None; order = None; pointee = text; length = n } in
    let fits : SFits w128 c.read_position-position.result = record { sfits = c.read_position-position.type_inv } in
    let z_is = to_z-of_z w128 c.read_position-position.result fits ∙ c.read_position-position.ensures in
    halts_by no_definition no_definition (enter_way b p) (shape_way b c.args.at str) s (λ t k. k) (λ t k pending seen o w. string_way b t pending s.depth s.end s.start seen c.args.at o (c.is_out_of_line.ensures.0 (is_true c.is_out_of_line.result c.if-is_out_of_line.true)) (rw c.read_coded_length-length.ensures at c.if-length-le8.false) (rw (z_is, c.read_coded_length-length.ensures) at w)) c.check_text.new.refusal c.check_text.result c.check_text.ensures.stops

pub returns-then-not-is_inline_text-clause-stops : goal.returns-then-not-is_inline_text-clause-stops
returns-then-not-is_inline_text-clause-stops g c d =
    let s = g.C.Context.state c.args.context.now in
    if_none (λ e. Halts no_definition (shape_way c.args.bytes.now c.args.at str) s e) c.refuse-then-not-is_inline_text.result c.refuse-then-not-is_inline_text.new.refusal InvalidUtf8 c.refuse-then-not-is_inline_text.ensures.fault
    (λ some. (no_text, refl, λ t k pending seen. trips_inline (λ u. not_true c.is_out_of_line.result c.if-is_out_of_line.false (c.is_out_of_line.ensures.1 u)) (λ u. not_true c.is_inline_text.result c.if-not-is_inline_text.true (c.is_inline_text.ensures.1 u))))

pub returns-clause-through : goal.returns-clause-through
returns-clause-through g c = goes_same no_definition (shape_way c.args.bytes.now c.args.at str) (g.C.Context.state c.args.context.now)
    (λ t k pending seen. walk_inline (λ u. not_true c.is_out_of_line.result c.if-is_out_of_line.false (c.is_out_of_line.ensures.1 u)) (c.is_inline_text.ensures.0 (is_true c.is_inline_text.result c.if-not-is_inline_text.false)))
