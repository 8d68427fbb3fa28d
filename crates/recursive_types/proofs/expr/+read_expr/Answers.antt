-- Written by tools/derive: change the declaration, and run it again.
use Rattle.archive_core.proofs.OwnersRead.{box_read, box_unread, vec_read, vec_unread}
use Rattle.archive_core.proofs.ReadChoices.{variant_read_back, variant_refuses}
use Rattle.archive_core.proofs.ReadElements.{all_have, elements_none, elements_more, elements_all, element_refused}
use Rattle.archive_core.proofs.ReadRecords.{first_refuses, later_refuses}
use Rattle.archive_core.specs.Definitions.{both, no_definition}
use Rattle.archive_core.specs.Held.{read_as}
use Rattle.archive_core.specs.PartsReading.{part_read_back, no_part_read_back}
use Rattle.archive_core.specs.Readable.{target_from}
use Rattle.archive_core.specs.Reads.{u32_at}
use Rattle.archive_core.specs.Runs.{each_keys}
use Rattle.archive_core.specs.Shape.{boxed, vec, str, one, run, part, no_part}
use Rattle.archive_core.specs.Value.{value}
use Rattle.recursive_types.specs.ExprMeaning.{expr_meaning, expr_keys, expr_add_means, expr_add_has_keys, expr_call_means, expr_call_has_keys}
use Rattle.recursive_types.specs.ExprShape.{expr_layout, expr_has_layout, expr_name, expr_shape, expr_definitions, expr_variants, expr_variant_definitions, expr_has_variants, expr_add_parts, expr_add_definitions, expr_call_parts, expr_call_definitions}
use Rattle.std.proofs.Common.{inl, ◌≡◌, ◌<◌, ◌+◌, ◌++◌, ◌∷◌, [], length, refl, arith, pos}
use Rattle.std.proofs.lemmas.Grind.{common_steps}
use Rattle.std.specs.Prelude.{[], ◌++◌, ◌≡◌, refl, pos, length}
use Rattle.recursive_types.proofs.expr.+read_expr.Goals as goal

pub read_box_expr-returns-in-Err-clause-refused : goal.read_box_expr-returns-in-Err-clause-refused
read_box_expr-returns-in-Err-clause-refused g t c = box_unread expr_definitions c.args.part.bytes.now c.args.part.pos c.args.part.len (one expr_shape) (g.D.Entries.entry_of c.args.deserializer.now) c.in-Err.error c.requires (rw (c.part.ensures.buffer, c.part.ensures.position, c.part.ensures.length, c.before_box.ensures.buffer, c.before_box.ensures.position, c.before_box.ensures.length, c.at-view.ensures.buffer, c.at-view.ensures.position) at c.in-Err.ensures.refused)

pub read_box_expr-returns-clause-read : goal.read_box_expr-returns-clause-read
read_box_expr-returns-clause-read g t c = (let same : c.in_ok-whole.whole.value ≡ c.in-Ok.value = grind (arith, common_steps) in rw same (box_read expr_definitions c.args.part.bytes.now c.args.part.pos c.args.part.len (one expr_shape) _ _ _ _ c.requires (rw (c.part.ensures.buffer, c.part.ensures.position, c.part.ensures.length, c.before_box.ensures.buffer, c.before_box.ensures.position, c.before_box.ensures.length, c.at-view.ensures.buffer, c.at-view.ensures.position) at c.in-Ok.ensures.read)))

pub read_vec_expr-returns-then-is_empty-clause-read : goal.read_vec_expr-returns-then-is_empty-clause-read
read_vec_expr-returns-then-is_empty-clause-read g t c = (let none : 0 ≡ u32_at c.args.part.bytes.now (c.args.part.pos + 4) = grind (arith, c.is_empty.ensures, c.if-is_empty.true, c.at-view.ensures.buffer, c.at-view.ensures.position) in rw c.new.ensures.items (vec_read expr_definitions c.args.part.bytes.now c.args.part.pos c.args.part.len expr_shape _ _ _ _ c.requires (elements_all expr_definitions expr_shape expr_layout expr_has_layout c.args.part.bytes.now (target_from c.args.part.bytes.now c.args.part.pos c.args.part.pos) (run expr_shape) (u32_at c.args.part.bytes.now (c.args.part.pos + 4)) (u32_at c.args.part.bytes.now (c.args.part.pos + 4)) (all_have expr_definitions expr_shape expr_layout expr_has_layout c.args.part.bytes.now (target_from c.args.part.bytes.now c.args.part.pos c.args.part.pos) (u32_at c.args.part.bytes.now (c.args.part.pos + 4)) (run expr_shape) (u32_at c.args.part.bytes.now (c.args.part.pos + 4)) (inl (refl, refl))) expr_meaning expr_keys (g.D.Entries.entry_of c.args.deserializer.now) (g.D.Entries.entry_of c.args.deserializer.now) [] none (elements_none expr_definitions expr_shape expr_layout expr_has_layout c.args.part.bytes.now (target_from c.args.part.bytes.now c.args.part.pos c.args.part.pos) (run expr_shape) (u32_at c.args.part.bytes.now (c.args.part.pos + 4)) (u32_at c.args.part.bytes.now (c.args.part.pos + 4)) (all_have expr_definitions expr_shape expr_layout expr_has_layout c.args.part.bytes.now (target_from c.args.part.bytes.now c.args.part.pos c.args.part.pos) (u32_at c.args.part.bytes.now (c.args.part.pos + 4)) (run expr_shape) (u32_at c.args.part.bytes.now (c.args.part.pos + 4)) (inl (refl, refl))) expr_meaning expr_keys (g.D.Entries.entry_of c.args.deserializer.now)))))

pub read_each_expr-returns-in-Err-clause-refused : goal.read_each_expr-returns-in-Err-clause-refused
read_each_expr-returns-in-Err-clause-refused g t c = (let kept = c.loop-index.invariant in let b = c.before_vec-list.result.bytes.now in let q = c.before_vec-list.result.pos in let n = c.before_vec-list.result.len in let below : c.loop-index.index < n = omega (arith, c.loop-index-test.true, c.loop-index.auto.index-end, c.len-index-end.ensures) in let h = rw (c.part.ensures.buffer, c.part.ensures.position, c.part.ensures.length, c.index.ensures.buffer, c.index.ensures.position, c.index.ensures.length) at c.in-Err.ensures.refused in let r = element_refused expr_definitions expr_shape expr_layout expr_has_layout b q (run expr_shape) n n (all_have expr_definitions expr_shape expr_layout expr_has_layout b q n (run expr_shape) n (inl (refl, refl))) expr_meaning expr_keys (g.D.Entries.entry_of c.args.deserializer.now) (g.D.Entries.entry_of c.loop-index.deserializer) c.loop-index.items.items c.loop-index.index (one expr_shape) c.in-Err.error refl below (kept.3) h in vec_unread expr_definitions c.args.part.bytes.now c.args.part.pos c.args.part.len expr_shape (g.D.Entries.entry_of c.args.deserializer.now) c.in-Err.error c.requires (rw (c.before_vec-list.ensures.buffer, c.before_vec-list.ensures.position, c.before_vec-list.ensures.length, c.at-view.ensures.buffer, c.at-view.ensures.position) at r))

pub read_each_expr-loop-index-preserved : goal.read_each_expr-loop-index-preserved
read_each_expr-loop-index-preserved g t c = (let kept = c.loop-index.invariant in let b = c.before_vec-list.result.bytes.now in let q = c.before_vec-list.result.pos in let n = c.before_vec-list.result.len in let below : c.loop-index.index < n = omega (arith, c.loop-index-test.true, c.loop-index.auto.index-end, c.len-index-end.ensures) in let pushed : c.push_reserved.new.self.items ≡ c.loop-index.items.items ++ c.in-Ok.item ∷ [] = grind (arith, common_steps) in let more : length (c.loop-index.items.items ++ c.in-Ok.item ∷ []) ≡ c.loop-index.index + 1 = grind (arith, common_steps, kept.0) in let h = rw (c.part.ensures.buffer, c.part.ensures.position, c.part.ensures.length, c.index.ensures.buffer, c.index.ensures.position, c.index.ensures.length) at c.in-Ok.ensures.read in rw pushed (more, grind (arith, common_steps, kept.1), grind (arith, common_steps, kept.2), elements_more expr_definitions expr_shape expr_layout expr_has_layout b q (run expr_shape) n n (all_have expr_definitions expr_shape expr_layout expr_has_layout b q n (run expr_shape) n (inl (refl, refl))) expr_meaning expr_keys (g.D.Entries.entry_of c.args.deserializer.now) (g.D.Entries.entry_of c.loop-index.deserializer) (g.D.Entries.entry_of c.read_expr.new.deserializer) c.loop-index.items.items c.in-Ok.item c.loop-index.index (one expr_shape) refl kept.0 below (kept.3) h))

pub read_each_expr-returns-clause-read : goal.read_each_expr-returns-clause-read
read_each_expr-returns-clause-read g t c = (let kept = c.loop-index.invariant in let b = c.before_vec-list.result.bytes.now in let q = c.before_vec-list.result.pos in let n = c.before_vec-list.result.len in let whole : length c.loop-index.items.items ≡ n = omega (arith, kept.0, c.loop-index-test.false, c.loop-index.auto.index-end, c.len-index-end.ensures) in let r = elements_all expr_definitions expr_shape expr_layout expr_has_layout b q (run expr_shape) n n (all_have expr_definitions expr_shape expr_layout expr_has_layout b q n (run expr_shape) n (inl (refl, refl))) expr_meaning expr_keys (g.D.Entries.entry_of c.args.deserializer.now) (g.D.Entries.entry_of c.loop-index.deserializer) c.loop-index.items.items whole (kept.3) in vec_read expr_definitions c.args.part.bytes.now c.args.part.pos c.args.part.len expr_shape _ _ _ _ c.requires (rw (c.before_vec-list.ensures.buffer, c.before_vec-list.ensures.position, c.before_vec-list.ensures.length, c.at-view.ensures.buffer, c.at-view.ensures.position) at r))

pub read_expr_add-returns-in-Err-clause-refused : goal.read_expr_add-returns-in-Err-clause-refused
read_expr_add-returns-in-Err-clause-refused g t c = (variant_refuses expr_definitions expr_shape expr_name expr_variant_definitions expr_variants expr_has_variants 1 expr_add_parts refl expr_add_definitions refl _ _ _ c.requires.tag _ _ (first_refuses expr_definitions (both expr_definitions no_definition) (boxed (one expr_shape)) (record { size = 4; align = 4 }) (record { solved = λ s k. refl }) (part (boxed (one expr_shape)) no_part) _ _ 1 _ _ (rw (c.part_0_of_expr_add-p0.ensures.buffer, c.part_0_of_expr_add-p0.ensures.position, c.part_0_of_expr_add-p0.ensures.length) at c.in-Err.ensures.refused)))

pub read_expr_add-returns-in-Err-read_box_expr-clause-refused : goal.read_expr_add-returns-in-Err-read_box_expr-clause-refused
read_expr_add-returns-in-Err-read_box_expr-clause-refused g t c = (variant_refuses expr_definitions expr_shape expr_name expr_variant_definitions expr_variants expr_has_variants 1 expr_add_parts refl expr_add_definitions refl _ _ _ c.requires.tag _ _ (later_refuses expr_definitions (both expr_definitions no_definition) (boxed (one expr_shape)) (record { size = 4; align = 4 }) (record { solved = λ s k. refl }) (part (boxed (one expr_shape)) no_part) _ _ 1 _ _ _ c.in-Ok.ensures.read.kept (first_refuses expr_definitions no_definition (boxed (one expr_shape)) (record { size = 4; align = 4 }) (record { solved = λ s k. refl }) no_part _ _ 8 _ _ (rw (c.part_1_of_expr_add-p1.ensures.buffer, c.part_1_of_expr_add-p1.ensures.position, c.part_1_of_expr_add-p1.ensures.length) at c.in-Err-read_box_expr.ensures.refused))))

pub read_expr_add-returns-clause-read : goal.read_expr_add-returns-clause-read
read_expr_add-returns-clause-read g t c = read_as (expr_add_has_keys c.in-Ok.a0 c.in-Ok-read_box_expr.a1) (expr_add_means c.in-Ok.a0 c.in-Ok-read_box_expr.a1) (variant_read_back expr_definitions expr_shape expr_name expr_variant_definitions expr_variants expr_has_variants 1 expr_add_parts refl expr_add_definitions refl _ _ _ c.requires.tag _ _ _ _ (part_read_back {L = (record { size = 4; align = 4 })} {ks = (expr_keys c.in-Ok.a0.value)} {ls = ((expr_keys c.in-Ok-read_box_expr.a1.value) ++ [])} (record { solved = λ s k. refl }) (rw (c.part_0_of_expr_add-p0.ensures.buffer, c.part_0_of_expr_add-p0.ensures.position, c.part_0_of_expr_add-p0.ensures.length) at c.in-Ok.ensures.read) (part_read_back {L = (record { size = 4; align = 4 })} {ks = (expr_keys c.in-Ok-read_box_expr.a1.value)} {ls = []} (record { solved = λ s k. refl }) (rw (c.part_1_of_expr_add-p1.ensures.buffer, c.part_1_of_expr_add-p1.ensures.position, c.part_1_of_expr_add-p1.ensures.length) at c.in-Ok-read_box_expr.ensures.read) no_part_read_back)))

pub read_expr_call-returns-in-Err-clause-refused : goal.read_expr_call-returns-in-Err-clause-refused
read_expr_call-returns-in-Err-clause-refused g t c = (variant_refuses expr_definitions expr_shape expr_name expr_variant_definitions expr_variants expr_has_variants 2 expr_call_parts refl expr_call_definitions refl _ _ _ c.requires.tag _ _ (first_refuses no_definition (both expr_definitions no_definition) str (record { size = 8; align = 4 }) (record { solved = λ s k. refl }) (part (vec expr_shape) no_part) _ _ 1 _ _ (rw (c.part_0_of_expr_call-p0.ensures.buffer, c.part_0_of_expr_call-p0.ensures.position, c.part_0_of_expr_call-p0.ensures.length) at c.in-Err.ensures.refused)))

pub read_expr_call-returns-in-Err-read_vec_expr-clause-refused : goal.read_expr_call-returns-in-Err-read_vec_expr-clause-refused
read_expr_call-returns-in-Err-read_vec_expr-clause-refused g t c = (variant_refuses expr_definitions expr_shape expr_name expr_variant_definitions expr_variants expr_has_variants 2 expr_call_parts refl expr_call_definitions refl _ _ _ c.requires.tag _ _ (later_refuses no_definition (both expr_definitions no_definition) str (record { size = 8; align = 4 }) (record { solved = λ s k. refl }) (part (vec expr_shape) no_part) _ _ 1 _ _ _ c.in-Ok.ensures.read.kept (first_refuses expr_definitions no_definition (vec expr_shape) (record { size = 8; align = 4 }) (record { solved = λ s k. refl }) no_part _ _ 12 _ _ (rw (c.part_1_of_expr_call-p1.ensures.buffer, c.part_1_of_expr_call-p1.ensures.position, c.part_1_of_expr_call-p1.ensures.length) at c.in-Err-read_vec_expr.ensures.refused))))

pub read_expr_call-returns-clause-read : goal.read_expr_call-returns-clause-read
read_expr_call-returns-clause-read g t c = read_as (expr_call_has_keys c.in-Ok.a0 c.in-Ok-read_vec_expr.a1) (expr_call_means c.in-Ok.a0 c.in-Ok-read_vec_expr.a1) (variant_read_back expr_definitions expr_shape expr_name expr_variant_definitions expr_variants expr_has_variants 2 expr_call_parts refl expr_call_definitions refl _ _ _ c.requires.tag _ _ _ _ (part_read_back {L = (record { size = 8; align = 4 })} {ks = []} {ls = ((each_keys expr_keys c.in-Ok-read_vec_expr.a1.items) ++ [])} (record { solved = λ s k. refl }) (rw (c.part_0_of_expr_call-p0.ensures.buffer, c.part_0_of_expr_call-p0.ensures.position, c.part_0_of_expr_call-p0.ensures.length) at c.in-Ok.ensures.read) (part_read_back {L = (record { size = 8; align = 4 })} {ks = (each_keys expr_keys c.in-Ok-read_vec_expr.a1.items)} {ls = []} (record { solved = λ s k. refl }) (rw (c.part_1_of_expr_call-p1.ensures.buffer, c.part_1_of_expr_call-p1.ensures.position, c.part_1_of_expr_call-p1.ensures.length) at c.in-Ok-read_vec_expr.ensures.read) no_part_read_back)))
