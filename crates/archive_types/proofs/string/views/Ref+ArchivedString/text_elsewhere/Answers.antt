use Rattle.std.proofs.Common.{◌≡◌, ◌+◌, ◌/◌, ◌≤◌, ℕ, List, length, nat_eq, true, slice_index, SFits, sym, ap, arith, ◌∙◌, refl}
use Rattle.std.proofs.lemmas.Bool.Decides.{nat_tests}
use Rattle.std.proofs.lemmas.Grind.{common_steps}
use mir.Syntax.{w128}
use Rattle.archive_check.specs.Reads.{bytes_at, u32_at, decoded_length, IsOutOfLine}
use Rattle.archive_check.specs.Readable.{target_from, string_text}
use Rattle.std.proofs.lemmas.Int.{to_z-of_z}
use Rattle.archive_check.proofs.Viewing.ViewedValues.{string_readable, out_says}
use Rattle.archive_types.proofs.Viewing.Shown.{string_shown, elsewhere_shown}
use Rattle.archive_types.proofs.string.views.Ref+ArchivedString.text_elsewhere.Goals as goal

-- the text of a string that stands elsewhere
out_text : (b : List ℕ) (p : ℕ) → IsOutOfLine b p → string_text b p ≡ bytes_at b (target_from b p (p + 4)) (decoded_length (u32_at b p))
out_text b p o = let e : nat_eq (slice_index b p / 64) 2 ≡ true = grind (arith, nat_tests, o) in rw e refl

-- so many bytes of a buffer that has them
long_enough : (b : List ℕ) (p n : ℕ) → p + n ≤ length b → length (bytes_at b p n) ≡ n
unfolding bytes_at
long_enough b p n h = grind (arith, common_steps)

pub read_position-target-requires : goal.read_position-target-requires
read_position-target-requires c = omega (arith, string_shown _ _ _ (string_readable _ _ _ _ c.part-pos.ensures.viewed))

pub read_coded_length-requires : goal.read_coded_length-requires
read_coded_length-requires c = omega (arith, string_shown _ _ _ (string_readable _ _ _ _ c.part-pos.ensures.viewed))

pub overflow_cast-target : goal.overflow_cast-target
overflow_cast-target c =
    let o = rw (← c.part-pos.ensures.buffer, ← c.part-pos.ensures.position) at c.requires in
    let e = elsewhere_shown _ _ _ o (string_readable _ _ _ _ c.part-pos.ensures.viewed) in
    let fits : SFits w128 c.read_position-target.result = record { sfits = c.read_position-target.type_inv } in
    let there = to_z-of_z w128 c.read_position-target.result fits ∙ c.read_position-target.ensures ∙ e.lands in
    let buffer = c.ranges.self.0 in
    rw there (tt, record { fits = omega (arith, e.shown.fits, buffer, ap length c.part-pos.ensures.buffer) })

pub read_text-requires-clause-within : goal.read_text-requires-clause-within
read_text-requires-clause-within c =
    let o = rw (← c.part-pos.ensures.buffer, ← c.part-pos.ensures.position) at c.requires in
    let e = elsewhere_shown _ _ _ o (string_readable _ _ _ _ c.part-pos.ensures.viewed) in
    let fits : SFits w128 c.read_position-target.result = record { sfits = c.read_position-target.type_inv } in
    let there = to_z-of_z w128 c.read_position-target.result fits ∙ c.read_position-target.ensures ∙ e.lands in
    rw (there, c.read_coded_length.ensures) e.shown.fits

pub read_text-requires-clause-utf8 : goal.read_text-requires-clause-utf8
read_text-requires-clause-utf8 c =
    let o = rw (← c.part-pos.ensures.buffer, ← c.part-pos.ensures.position) at c.requires in
    let e = elsewhere_shown _ _ _ o (string_readable _ _ _ _ c.part-pos.ensures.viewed) in
    let fits : SFits w128 c.read_position-target.result = record { sfits = c.read_position-target.type_inv } in
    let there = to_z-of_z w128 c.read_position-target.result fits ∙ c.read_position-target.ensures ∙ e.lands in
    rw (there, c.read_coded_length.ensures) e.shown.utf8

pub returns-clause-text : goal.returns-clause-text
returns-clause-text c =
    let o = rw (← c.part-pos.ensures.buffer, ← c.part-pos.ensures.position) at c.requires in
    let e = elsewhere_shown _ _ _ o (string_readable _ _ _ _ c.part-pos.ensures.viewed) in
    let fits : SFits w128 c.read_position-target.result = record { sfits = c.read_position-target.type_inv } in
    let there = to_z-of_z w128 c.read_position-target.result fits ∙ c.read_position-target.ensures ∙ e.lands in
    rw (c.read_text.ensures, there, c.read_coded_length.ensures, ← c.part-pos.ensures.buffer, ← c.part-pos.ensures.position) (sym (out_text _ _ o))

pub returns-clause-length : goal.returns-clause-length
returns-clause-length c =
    let o = rw (← c.part-pos.ensures.buffer, ← c.part-pos.ensures.position) at c.requires in
    let e = elsewhere_shown _ _ _ o (string_readable _ _ _ _ c.part-pos.ensures.viewed) in
    let fits : SFits w128 c.read_position-target.result = record { sfits = c.read_position-target.type_inv } in
    let there = to_z-of_z w128 c.read_position-target.result fits ∙ c.read_position-target.ensures ∙ e.lands in
    rw (c.read_text.ensures, there, c.read_coded_length.ensures, ← c.part-pos.ensures.buffer, ← c.part-pos.ensures.position) (long_enough _ _ _ e.shown.fits)

pub returns-clause-says : goal.returns-clause-says
returns-clause-says c =
    let o = rw (← c.part-pos.ensures.buffer, ← c.part-pos.ensures.position) at c.requires in
    let e = elsewhere_shown _ _ _ o (string_readable _ _ _ _ c.part-pos.ensures.viewed) in
    let fits : SFits w128 c.read_position-target.result = record { sfits = c.read_position-target.type_inv } in
    let there = to_z-of_z w128 c.read_position-target.result fits ∙ c.read_position-target.ensures ∙ e.lands in
    rw (c.read_text.ensures, there, c.read_coded_length.ensures, ← c.part-pos.ensures.buffer, ← c.part-pos.ensures.position) (out_says _ _ _ _ o)
