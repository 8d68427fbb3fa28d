use Rattle.std.proofs.Common.{SFits, inl, inr, sym, ap, ◌∙◌, to_z, of_z}
use Rattle.std.proofs.lemmas.Int.{to_z-of_z}
use mir.Syntax.{w32}
use Rattle.archive_schema.proofs.check.Checker.leads_back_or_is_null.Goals as goal

pub returns-then-read_i32-eq1 : goal.returns-then-read_i32-eq1
returns-then-read_i32-eq1 g c = λ k numbered so.
    let fits : SFits w32 c.read_i32.result = record { sfits = c.read_i32.type_inv } in
    inl (sym c.read_i32.ensures ∙ sym (to_z-of_z w32 c.read_i32.result fits) ∙ ap (to_z w32) c.if-read_i32-eq1.true)

pub returns : goal.returns
returns g c = λ k numbered so.
    inr (λ e. c.if-read_i32-eq1.false (ap (of_z w32) (c.read_i32.ensures ∙ e)), c.leads_back.ensures k numbered so)
