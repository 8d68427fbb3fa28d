-- Written by tools/derive: change the declaration, and run it again.
use Rattle.archive_core.proofs.OwnersRead.{vec_read, vec_unread}
use Rattle.archive_core.proofs.ReadChoices.{variant_read_back, variant_refuses}
use Rattle.archive_core.proofs.ReadElements.{all_have, elements_none, elements_more, elements_all, element_refused}
use Rattle.archive_core.proofs.ReadRecords.{first_refuses}
use Rattle.archive_core.specs.Definitions.{no_definition}
use Rattle.archive_core.specs.Held.{read_as}
use Rattle.archive_core.specs.PartsReading.{part_read_back, no_part_read_back}
use Rattle.archive_core.specs.Readable.{target_from}
use Rattle.archive_core.specs.Reads.{u32_at}
use Rattle.archive_core.specs.Runs.{each_keys}
use Rattle.archive_core.specs.Shape.{vec, one, run, part, no_part}
use Rattle.recursive_types.specs.StmtMeaning.{stmt_meaning, stmt_keys, stmt_block_means, stmt_block_has_keys}
use Rattle.recursive_types.specs.StmtShape.{stmt_layout, stmt_has_layout, stmt_name, stmt_shape, stmt_definitions, stmt_variants, stmt_variant_definitions, stmt_has_variants, stmt_block_parts, stmt_block_definitions}
use Rattle.std.proofs.Common.{inl, ◌≡◌, ◌<◌, ◌+◌, ◌++◌, ◌∷◌, [], length, refl, arith, pos}
use Rattle.std.proofs.lemmas.Grind.{common_steps}
use Rattle.std.specs.Prelude.{[], ◌++◌, ◌≡◌, refl, pos, length}
use Rattle.recursive_types.proofs.stmt.+read_stmt.Goals as goal

pub read_vec_stmt-returns-then-is_empty-clause-read : goal.read_vec_stmt-returns-then-is_empty-clause-read
read_vec_stmt-returns-then-is_empty-clause-read g t c = (let none : 0 ≡ u32_at c.args.part.bytes.now (c.args.part.pos + 4) = grind (arith, c.is_empty.ensures, c.if-is_empty.true, c.at-view.ensures.buffer, c.at-view.ensures.position) in rw c.new.ensures.items (vec_read stmt_definitions c.args.part.bytes.now c.args.part.pos c.args.part.len stmt_shape _ _ _ _ c.requires (elements_all stmt_definitions stmt_shape stmt_layout stmt_has_layout c.args.part.bytes.now (target_from c.args.part.bytes.now c.args.part.pos c.args.part.pos) (run stmt_shape) (u32_at c.args.part.bytes.now (c.args.part.pos + 4)) (u32_at c.args.part.bytes.now (c.args.part.pos + 4)) (all_have stmt_definitions stmt_shape stmt_layout stmt_has_layout c.args.part.bytes.now (target_from c.args.part.bytes.now c.args.part.pos c.args.part.pos) (u32_at c.args.part.bytes.now (c.args.part.pos + 4)) (run stmt_shape) (u32_at c.args.part.bytes.now (c.args.part.pos + 4)) (inl (refl, refl))) stmt_meaning stmt_keys (g.D.Entries.entry_of c.args.deserializer.now) (g.D.Entries.entry_of c.args.deserializer.now) [] none (elements_none stmt_definitions stmt_shape stmt_layout stmt_has_layout c.args.part.bytes.now (target_from c.args.part.bytes.now c.args.part.pos c.args.part.pos) (run stmt_shape) (u32_at c.args.part.bytes.now (c.args.part.pos + 4)) (u32_at c.args.part.bytes.now (c.args.part.pos + 4)) (all_have stmt_definitions stmt_shape stmt_layout stmt_has_layout c.args.part.bytes.now (target_from c.args.part.bytes.now c.args.part.pos c.args.part.pos) (u32_at c.args.part.bytes.now (c.args.part.pos + 4)) (run stmt_shape) (u32_at c.args.part.bytes.now (c.args.part.pos + 4)) (inl (refl, refl))) stmt_meaning stmt_keys (g.D.Entries.entry_of c.args.deserializer.now)))))

pub read_each_stmt-returns-in-Err-clause-refused : goal.read_each_stmt-returns-in-Err-clause-refused
read_each_stmt-returns-in-Err-clause-refused g t c = (let kept = c.loop-index.invariant in let b = c.before_vec-list.result.bytes.now in let q = c.before_vec-list.result.pos in let n = c.before_vec-list.result.len in let below : c.loop-index.index < n = omega (arith, c.loop-index-test.true, c.loop-index.auto.index-end, c.len-index-end.ensures) in let h = rw (c.part.ensures.buffer, c.part.ensures.position, c.part.ensures.length, c.index.ensures.buffer, c.index.ensures.position, c.index.ensures.length) at c.in-Err.ensures.refused in let r = element_refused stmt_definitions stmt_shape stmt_layout stmt_has_layout b q (run stmt_shape) n n (all_have stmt_definitions stmt_shape stmt_layout stmt_has_layout b q n (run stmt_shape) n (inl (refl, refl))) stmt_meaning stmt_keys (g.D.Entries.entry_of c.args.deserializer.now) (g.D.Entries.entry_of c.loop-index.deserializer) c.loop-index.items.items c.loop-index.index (one stmt_shape) c.in-Err.error refl below (kept.3) h in vec_unread stmt_definitions c.args.part.bytes.now c.args.part.pos c.args.part.len stmt_shape (g.D.Entries.entry_of c.args.deserializer.now) c.in-Err.error c.requires (rw (c.before_vec-list.ensures.buffer, c.before_vec-list.ensures.position, c.before_vec-list.ensures.length, c.at-view.ensures.buffer, c.at-view.ensures.position) at r))

pub read_each_stmt-loop-index-preserved : goal.read_each_stmt-loop-index-preserved
read_each_stmt-loop-index-preserved g t c = (let kept = c.loop-index.invariant in let b = c.before_vec-list.result.bytes.now in let q = c.before_vec-list.result.pos in let n = c.before_vec-list.result.len in let below : c.loop-index.index < n = omega (arith, c.loop-index-test.true, c.loop-index.auto.index-end, c.len-index-end.ensures) in let pushed : c.push_reserved.new.self.items ≡ c.loop-index.items.items ++ c.in-Ok.item ∷ [] = grind (arith, common_steps) in let more : length (c.loop-index.items.items ++ c.in-Ok.item ∷ []) ≡ c.loop-index.index + 1 = grind (arith, common_steps, kept.0) in let h = rw (c.part.ensures.buffer, c.part.ensures.position, c.part.ensures.length, c.index.ensures.buffer, c.index.ensures.position, c.index.ensures.length) at c.in-Ok.ensures.read in rw pushed (more, grind (arith, common_steps, kept.1), grind (arith, common_steps, kept.2), elements_more stmt_definitions stmt_shape stmt_layout stmt_has_layout b q (run stmt_shape) n n (all_have stmt_definitions stmt_shape stmt_layout stmt_has_layout b q n (run stmt_shape) n (inl (refl, refl))) stmt_meaning stmt_keys (g.D.Entries.entry_of c.args.deserializer.now) (g.D.Entries.entry_of c.loop-index.deserializer) (g.D.Entries.entry_of c.read_stmt.new.deserializer) c.loop-index.items.items c.in-Ok.item c.loop-index.index (one stmt_shape) refl kept.0 below (kept.3) h))

pub read_each_stmt-returns-clause-read : goal.read_each_stmt-returns-clause-read
read_each_stmt-returns-clause-read g t c = (let kept = c.loop-index.invariant in let b = c.before_vec-list.result.bytes.now in let q = c.before_vec-list.result.pos in let n = c.before_vec-list.result.len in let whole : length c.loop-index.items.items ≡ n = omega (arith, kept.0, c.loop-index-test.false, c.loop-index.auto.index-end, c.len-index-end.ensures) in let r = elements_all stmt_definitions stmt_shape stmt_layout stmt_has_layout b q (run stmt_shape) n n (all_have stmt_definitions stmt_shape stmt_layout stmt_has_layout b q n (run stmt_shape) n (inl (refl, refl))) stmt_meaning stmt_keys (g.D.Entries.entry_of c.args.deserializer.now) (g.D.Entries.entry_of c.loop-index.deserializer) c.loop-index.items.items whole (kept.3) in vec_read stmt_definitions c.args.part.bytes.now c.args.part.pos c.args.part.len stmt_shape _ _ _ _ c.requires (rw (c.before_vec-list.ensures.buffer, c.before_vec-list.ensures.position, c.before_vec-list.ensures.length, c.at-view.ensures.buffer, c.at-view.ensures.position) at r))

pub read_stmt_block-returns-in-Err-clause-refused : goal.read_stmt_block-returns-in-Err-clause-refused
read_stmt_block-returns-in-Err-clause-refused g t c = (variant_refuses stmt_definitions stmt_shape stmt_name stmt_variant_definitions stmt_variants stmt_has_variants 1 stmt_block_parts refl stmt_block_definitions refl _ _ _ c.requires.tag _ _ (first_refuses stmt_definitions no_definition (vec stmt_shape) (record { size = 8; align = 4 }) (record { solved = λ s k. refl }) no_part _ _ 1 _ _ (rw (c.part_0_of_stmt_block-p0.ensures.buffer, c.part_0_of_stmt_block-p0.ensures.position, c.part_0_of_stmt_block-p0.ensures.length) at c.in-Err.ensures.refused)))

pub read_stmt_block-returns-clause-read : goal.read_stmt_block-returns-clause-read
read_stmt_block-returns-clause-read g t c = read_as (stmt_block_has_keys c.in-Ok.a0) (stmt_block_means c.in-Ok.a0) (variant_read_back stmt_definitions stmt_shape stmt_name stmt_variant_definitions stmt_variants stmt_has_variants 1 stmt_block_parts refl stmt_block_definitions refl _ _ _ c.requires.tag _ _ _ _ (part_read_back {L = (record { size = 8; align = 4 })} {ks = (each_keys stmt_keys c.in-Ok.a0.items)} {ls = []} (record { solved = λ s k. refl }) (rw (c.part_0_of_stmt_block-p0.ensures.buffer, c.part_0_of_stmt_block-p0.ensures.position, c.part_0_of_stmt_block-p0.ensures.length) at c.in-Ok.ensures.read) no_part_read_back))
