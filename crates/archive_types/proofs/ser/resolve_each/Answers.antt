use Rattle.std.proofs.Common.{rules, ◌≡◌, ◌+◌, ◌<◌, ◌^◌, length, take, refl, sym, ◌∙◌, arith}
use Rattle.std.proofs.lemmas.Grind.{common_steps}
use Rattle.std.proofs.lemmas.List.{length-take}
use Rattle.archive_types.proofs.Planning.Causes.{goes_both, goes_written, goes_refused}
use Rattle.archive_types.proofs.Writing.RunRegions.{fills_start, fills_more, belongs_here, place_here, fills_broken, fills_next, fills_written, fills_refused, fills_end, same_length}
use Rattle.archive_types.proofs.ser.resolve_each.Goals as goal

pub loop-resolver-init : goal.loop-resolver-init
loop-resolver-init g c = record {
  can_next = tt;
  finite = tt;
  room = omega (arith, c.requires.sized);
  fills = rw (c.into_iter-resolver-iterator.ensures.into_iter_gives.0) (fills_start _ _ _ _ _ _ _ c.args.resolvers.items c.requires.same_values);
}

pub unreachable-requires : goal.unreachable-requires
unreachable-requires g c = fills_more _ _ _ _ _ _ _ _ _ _ _ _ _ c.in-Some.resolver (c.in-Some.ensures.steps.0) c.in_default.ensures.cases c.loop-resolver.invariant.fills

pub resolve_in_block-requires-clause-ends : goal.resolve_in_block-requires-clause-ends
resolve_in_block-requires-clause-ends g c =
    let filled = c.loop-resolver.filled in
    let held : length (take filled c.loop-resolver.block) ≡ filled = omega (arith, c.loop-resolver.invariant.room, length-take filled c.loop-resolver.block) in
    let here : c.pos.result ≡ length (g.W.Keys.state c.loop-resolver.writer).bytes = c.pos.ensures ∙ g.met.W.Writer.position_law c.loop-resolver.writer in
    let fits = place_here _ _ _ _ _ _ _ _ _ _ _ _ _ c.in-Some-split_first.value.now c.in-Some-split_first.ensures.cases.0 c.loop-resolver.invariant.fills c.requires.ends in
    omega (arith, held, here, fits)

pub returns-in-Err : goal.returns-in-Err
returns-in-Err g c =
    let filled = c.loop-resolver.filled in
    let held : length (take filled c.loop-resolver.block) ≡ filled = omega (arith, c.loop-resolver.invariant.room, length-take filled c.loop-resolver.block) in
    let here : c.pos.result ≡ length (g.W.Keys.state c.loop-resolver.writer).bytes = c.pos.ensures ∙ g.met.W.Writer.position_law c.loop-resolver.writer in
    let there : c.pos.result + filled ≡ length (g.W.Keys.state c.loop-resolver.writer).bytes + length (take filled c.loop-resolver.block) = omega (arith, held, here) in
    record {
      put = search rules;
      refused = rw (c.by_words.ensures)
          (fills_broken _ _ _ _ _ _ _ _ _ _ _ _ _ _ c.in-Some-split_first.value.now c.in-Some.resolver c.in-Some-split_first.ensures.cases.0 c.loop-resolver.invariant.fills c.in-Some.ensures.steps.0
          _ (rw there at c.in-Err.ensures.refused));
      goes_on = c.loop-resolver.invariant.fills.goes;
      keys = c.loop-resolver.invariant.fills.states;
    }

pub returns-in-Err-write : goal.returns-in-Err-write
returns-in-Err-write g c =
    let filled = c.loop-resolver.filled in
    let here : c.pos.result ≡ length (g.W.Keys.state c.loop-resolver.writer).bytes = c.pos.ensures ∙ g.met.W.Writer.position_law c.loop-resolver.writer in
    let fits = place_here _ _ _ _ _ _ _ _ _ _ _ _ _ c.in-Some-split_first.value.now c.in-Some-split_first.ensures.cases.0 c.loop-resolver.invariant.fills c.requires.ends in
    let end : filled + c.size-size.result ≡ filled + g.T.Archived.Portable.layout.size = omega (arith, c.size-size.ensures, fits) in
    let next = fills_next _ _ _ _ _ _ _ _ _ _ _ _ _ c.in-Some-split_first.value.now c.in-Some.resolver c.in-Some-split_first.ensures.cases.0 c.in-Some.ensures.steps.0 g.met.T.Archived.Portable.has_layout
    filled c.pos.result (filled + c.size-size.result) c.loop-resolver.block c.resolve_in_block.new.block c.loop-resolver.invariant.room c.resolve_in_block.ensures.others_stay here end
    c.loop-resolver.invariant.fills c.in_default-resolve_in_block.ensures.resolved in
    let goes = goes_refused _ _ c.in-Err-write.ensures.kept c.in-Err-write.ensures.room c.in-Err-write.ensures.device c.in-Err-write.ensures.keys in
    record {
      put = search rules;
      refused = rw (c.by_words-in-Err-write.ensures)
          (fills_refused _ _ _ _ _ _ _ _ _ _ _ _ next _ _ _ _ (g.met.W.Writer.position_law c.loop-resolver.writer) refl goes c.in-Err-write.ensures.refusal);
      goes_on = goes_both _ _ _ c.loop-resolver.invariant.fills.goes goes;
      keys = λ k. c.in-Err-write.ensures.keys k ∙ c.loop-resolver.invariant.fills.states k;
    }

pub loop-resolver-preserved : goal.loop-resolver-preserved
loop-resolver-preserved g c =
    let filled = c.loop-resolver.filled in
    let here : c.pos.result ≡ length (g.W.Keys.state c.loop-resolver.writer).bytes = c.pos.ensures ∙ g.met.W.Writer.position_law c.loop-resolver.writer in
    let fits = place_here _ _ _ _ _ _ _ _ _ _ _ _ _ c.in-Some-split_first.value.now c.in-Some-split_first.ensures.cases.0 c.loop-resolver.invariant.fills c.requires.ends in
    let end : filled + c.size-size.result ≡ filled + g.T.Archived.Portable.layout.size = omega (arith, c.size-size.ensures, fits) in
    let next = fills_next _ _ _ _ _ _ _ _ _ _ _ _ _ c.in-Some-split_first.value.now c.in-Some.resolver c.in-Some-split_first.ensures.cases.0 c.in-Some.ensures.steps.0 g.met.T.Archived.Portable.has_layout
    filled c.pos.result (filled + c.size-size.result) c.loop-resolver.block c.resolve_in_block.new.block c.loop-resolver.invariant.room c.resolve_in_block.ensures.others_stay here end
    c.loop-resolver.invariant.fills c.in_default-resolve_in_block.ensures.resolved in
    let stays = same_length filled g.T.Archived.Portable.layout.size c.loop-resolver.block c.resolve_in_block.new.block c.loop-resolver.invariant.room c.resolve_in_block.ensures.others_stay in
    record {
      can_next = tt;
      finite = tt;
      room = omega (arith, c.loop-resolver.invariant.room, stays);
      fills = fills_written _ _ _ _ _ _ _ _ _ _ _ _ next _ c.in_default-write.ensures.written c.in_default-write.ensures.keys
          (goes_written _ _ _ c.in_default-write.ensures.written c.in_default-write.ensures.room c.in_default-write.ensures.device c.in_default-write.ensures.keys);
    }

pub loop-resolver-preserved-then-size-block : goal.loop-resolver-preserved-then-size-block
loop-resolver-preserved-then-size-block g c =
    let filled = c.loop-resolver.filled in
    let here : c.pos.result ≡ length (g.W.Keys.state c.loop-resolver.writer).bytes = c.pos.ensures ∙ g.met.W.Writer.position_law c.loop-resolver.writer in
    let fits = place_here _ _ _ _ _ _ _ _ _ _ _ _ _ c.in-Some-split_first.value.now c.in-Some-split_first.ensures.cases.0 c.loop-resolver.invariant.fills c.requires.ends in
    let end : filled + c.size-size.result ≡ filled + g.T.Archived.Portable.layout.size = omega (arith, c.size-size.ensures, fits) in
    let stays = same_length filled g.T.Archived.Portable.layout.size c.loop-resolver.block c.resolve_in_block.new.block c.loop-resolver.invariant.room c.resolve_in_block.ensures.others_stay in
    record {
      can_next = tt;
      finite = tt;
      room = omega (arith, c.if-size-block.true, c.size-size.ensures, end, stays, c.loop-resolver.invariant.room);
      fills = fills_next _ _ _ _ _ _ _ _ _ _ _ _ _ c.in-Some-split_first.value.now c.in-Some.resolver c.in-Some-split_first.ensures.cases.0 c.in-Some.ensures.steps.0 g.met.T.Archived.Portable.has_layout
          filled c.pos.result (filled + c.size-size.result) c.loop-resolver.block c.resolve_in_block.new.block c.loop-resolver.invariant.room c.resolve_in_block.ensures.others_stay here end
          c.loop-resolver.invariant.fills c.in_default-resolve_in_block.ensures.resolved;
    }

-- what waits at the end

pub returns-then-filled-eq0 : goal.returns-then-filled-eq0
returns-then-filled-eq0 g c = record {
  put = fills_end _ _ _ _ _ _ _ c.loop-resolver.filled c.loop-resolver.block _ _ _ _ g.met.T.Archived.Portable.has_layout (sym c.loop-resolver.resolver-iterator.rest.ok.0 ∙ c.in-None.ensures.steps.0)
      (λ e. omega (arith, c.if-filled-eq0.true)) c.loop-resolver.invariant.fills;
  refused = search rules;
  goes_on = c.loop-resolver.invariant.fills.goes;
  keys = c.loop-resolver.invariant.fills.states;
}

pub returns-in-Err-write-2 : goal.returns-in-Err-write-2
returns-in-Err-write-2 g c =
    let goes = goes_refused _ _ c.in-Err-write-2.ensures.kept c.in-Err-write-2.ensures.room c.in-Err-write-2.ensures.device c.in-Err-write-2.ensures.keys in
    record {
      put = search rules;
      refused = rw (c.by_words-in-Err-write-2.ensures)
          (fills_refused _ _ _ _ _ _ _ _ _ _ _ _ c.loop-resolver.invariant.fills _ _ _ _ (g.met.W.Writer.position_law c.loop-resolver.writer) refl goes c.in-Err-write-2.ensures.refusal);
      goes_on = goes_both _ _ _ c.loop-resolver.invariant.fills.goes goes;
      keys = λ k. c.in-Err-write-2.ensures.keys k ∙ c.loop-resolver.invariant.fills.states k;
    }

pub returns : goal.returns
returns g c =
    let goes = goes_written _ _ _ c.in_default-write-2.ensures.written c.in_default-write-2.ensures.room c.in_default-write-2.ensures.device c.in_default-write-2.ensures.keys in
    let done = fills_written _ _ _ _ _ _ _ _ _ _ _ _ c.loop-resolver.invariant.fills _ c.in_default-write-2.ensures.written c.in_default-write-2.ensures.keys goes in
    record {
      put = fills_end _ _ _ _ _ _ _ 0 c.loop-resolver.block _ _ _ _ g.met.T.Archived.Portable.has_layout (sym c.loop-resolver.resolver-iterator.rest.ok.0 ∙ c.in-None.ensures.steps.0) (λ e. refl) done;
      refused = search rules;
      goes_on = done.goes;
      keys = done.states;
    }
