use Rattle.std.proofs.Common.{◌≡◌, ◌++◌, ◌∷◌, [], refl, sym, ap, subst, ◌∙◌, arith, rules}
use Rattle.std.proofs.lemmas.Grind.{common_steps}
use Rattle.archive_check.specs.declared.format.error.Error.TheVariants.{OutOfMemory}
use Rattle.archive_types.specs.Causes.{no_memory}
use Rattle.archive_types.proofs.Planning.Causes.{err_by, goes_both}
use Rattle.archive_core.specs.recursive.Chains.{in_lists}
use Rattle.archive_core.proofs.recursive.ChainsWritten.{Down, Up, down_more, down_goes, down_refused, up_goes, up_ends, up_its, up_more, up_refused, in_lists_last, in_lists_none, in_lists_outer, some_same}
use Rattle.archive_core.proofs.recursive.chain.write.serialize_chain.Goals as goal

pub loop-head-init : goal.loop-head-init
loop-head-init g c =
    let D = g.T.Archived.ArchivePointee.definitions in
    let X = g.T.Archived.Portable.shape in
    let a = g.T.Archive in
    let closed = g.T.ChainSource.closed in
    let v0 = c.args.value.now in
    let w0 = g.S.Keys.state c.args.serializer.now in
    subst (λ xs. Down D X a.keys a.meaning a.flat a.belongs closed v0 w0 xs v0 w0) (sym (in_lists_none _ _ c.new-full.ensures.items c.new-chain.ensures.items)) (refl, refl)

pub returns-in-Err : goal.returns-in-Err
returns-in-Err g c =
    let D = g.T.Archived.ArchivePointee.definitions in
    let X = g.T.Archived.Portable.shape in
    let a = g.T.Archive in
    let closed = g.T.ChainSource.closed in
    let v0 = c.args.value.now in
    let w0 = g.S.Keys.state c.args.serializer.now in
    let kept = c.loop-head.invariant in
    let here = c.loop-head.here.now in
    let fs = in_lists c.loop-head.full.items c.loop-head.chain.items in
    let w1 = g.S.Keys.state c.loop-head.serializer in
    let w2 = g.S.Keys.state c.serialize_head.new.serializer in
    record {
      serialized = search rules;
      same_value = search rules;
      goes_on = goes_both _ _ _ (down_goes D X a.keys a.meaning a.flat a.belongs closed fs v0 w0 here w1 kept) c.serialize_head.ensures.goes_on;
      refused = down_refused D X a.keys a.meaning a.flat a.belongs closed fs v0 w0 here w1 kept w2 _ c.serialize_head.ensures.goes_on c.in-Err.ensures.refused;
    }

pub returns-in_err-chain : goal.returns-in_err-chain
returns-in_err-chain g c =
    let D = g.T.Archived.ArchivePointee.definitions in
    let X = g.T.Archived.Portable.shape in
    let a = g.T.Archive in
    let closed = g.T.ChainSource.closed in
    let v0 = c.args.value.now in
    let w0 = g.S.Keys.state c.args.serializer.now in
    let kept = c.loop-head.invariant in
    let here = c.loop-head.here.now in
    let fs = in_lists c.loop-head.full.items c.loop-head.chain.items in
    let w1 = g.S.Keys.state c.loop-head.serializer in
    let w2 = g.S.Keys.state c.serialize_head.new.serializer in
    record {
      serialized = search rules;
      same_value = search rules;
      goes_on = goes_both _ _ _ (down_goes D X a.keys a.meaning a.flat a.belongs closed fs v0 w0 here w1 kept) c.serialize_head.ensures.goes_on;
      refused = err_by c.from_residual.result OutOfMemory _ c.from_residual.ensures.1 no_memory;
    }

pub returns-in_err-map_err : goal.returns-in_err-map_err
returns-in_err-map_err g c =
    let D = g.T.Archived.ArchivePointee.definitions in
    let X = g.T.Archived.Portable.shape in
    let a = g.T.Archive in
    let closed = g.T.ChainSource.closed in
    let v0 = c.args.value.now in
    let w0 = g.S.Keys.state c.args.serializer.now in
    let kept = c.loop-head.invariant in
    let here = c.loop-head.here.now in
    let fs = in_lists c.loop-head.full.items c.loop-head.chain.items in
    let w1 = g.S.Keys.state c.loop-head.serializer in
    let w2 = g.S.Keys.state c.serialize_head.new.serializer in
    record {
      serialized = search rules;
      same_value = search rules;
      goes_on = goes_both _ _ _ (down_goes D X a.keys a.meaning a.flat a.belongs closed fs v0 w0 here w1 kept) c.serialize_head.ensures.goes_on;
      refused = err_by c.from_residual-in_err-map_err.result OutOfMemory _ c.from_residual-in_err-map_err.ensures.1 no_memory;
    }

pub loop-head-smaller : goal.loop-head-smaller
loop-head-smaller g c =
    let h = rw c.in-Open.is at c.in-Ok.ensures.serialized in
    let same : h.0 ≡ c.in-Some.rest.now = some_same (sym h.1 ∙ c.in-Some.ensures) in
    rw same at h.2.lighter

pub loop-head-preserved : goal.loop-head-preserved
loop-head-preserved g c =
    let D = g.T.Archived.ArchivePointee.definitions in
    let X = g.T.Archived.Portable.shape in
    let a = g.T.Archive in
    let closed = g.T.ChainSource.closed in
    let v0 = c.args.value.now in
    let w0 = g.S.Keys.state c.args.serializer.now in
    let kept = c.loop-head.invariant in
    let here = c.loop-head.here.now in
    let fs = in_lists c.loop-head.full.items c.loop-head.chain.items in
    let w1 = g.S.Keys.state c.loop-head.serializer in
    let w2 = g.S.Keys.state c.serialize_head.new.serializer in
    let x = c.in-Some.rest in
    let k = c.in-Open.kept in
    let h = rw c.in-Open.is at c.in-Ok.ensures.serialized in
    let same : h.0 ≡ x.now = some_same (sym h.1 ∙ c.in-Some.ensures) in
    let put : c.push.new.self.items ≡ c.in_ok-chain.chain.items ++ (x, k) ∷ [] = grind (arith, common_steps) in
    let pushed : in_lists c.list_for_more.new.full.items c.push.new.self.items ≡ fs ++ (x, k) ∷ [] =
    in_lists_last c.list_for_more.new.full.items c.push.new.self.items c.in_ok-chain.chain.items (x, k) put ∙ ap (λ xs. xs ++ (x, k) ∷ []) c.in_ok-chain.ensures
    in
    subst (λ xs. Down D X a.keys a.meaning a.flat a.belongs closed v0 w0 xs x.now w2) (sym pushed) (down_more D X a.keys a.meaning a.flat a.belongs closed fs v0 w0 here w1 w2 x k kept (record { head = rw same at h.2; goes = c.serialize_head.ensures.goes_on }))

pub loop-rest-init : goal.loop-rest-init
loop-rest-init g c = rw (c.make_room.ensures.unchanged) (record {
  here = c.loop-head.here.now;
  since = g.S.Keys.state c.loop-head.serializer;
  down = c.loop-head.invariant;
  goes = c.serialize_head.ensures.goes_on;
  written = (rw c.in-Whole.is at c.in-Ok.ensures.serialized).0;
  its = (rw c.in-Whole.is at c.in-Ok.ensures.serialized).1;
})

pub serialize_inner-requires : goal.serialize_inner-requires
serialize_inner-requires g c =
    let D = g.T.Archived.ArchivePointee.definitions in
    let X = g.T.Archived.Portable.shape in
    let a = g.T.Archive in
    let closed = g.T.ChainSource.closed in
    let v0 = c.args.value.now in
    let w0 = g.S.Keys.state c.args.serializer.now in
    let kept = c.loop-rest-2.invariant in
    let full = c.loop-rest.full.items in
    let fs = in_lists full c.loop-rest-2.chain.items in
    let gs = in_lists full c.pop.new.self.items in
    let r = c.loop-rest-2.resolver in
    let now = g.S.Keys.state c.loop-rest-2.serializer in
    let x = c.in-Some-pop.rest in
    let k = c.in-Some-pop.kept in
    let popped : fs ≡ gs ++ (x, k) ∷ [] = in_lists_last full _ _ _ (grind (arith, common_steps)) in
    record { same_value = up_its D X a.keys a.meaning a.flat a.belongs closed v0 w0 fs gs x k r now popped kept }

pub loop-rest-2-preserved : goal.loop-rest-2-preserved
loop-rest-2-preserved g c =
    let D = g.T.Archived.ArchivePointee.definitions in
    let X = g.T.Archived.Portable.shape in
    let a = g.T.Archive in
    let closed = g.T.ChainSource.closed in
    let v0 = c.args.value.now in
    let w0 = g.S.Keys.state c.args.serializer.now in
    let kept = c.loop-rest-2.invariant in
    let full = c.loop-rest.full.items in
    let fs = in_lists full c.loop-rest-2.chain.items in
    let gs = in_lists full c.pop.new.self.items in
    let r = c.loop-rest-2.resolver in
    let now = g.S.Keys.state c.loop-rest-2.serializer in
    let x = c.in-Some-pop.rest in
    let k = c.in-Some-pop.kept in
    let next = g.S.Keys.state c.serialize_inner.new.serializer in
    let popped : fs ≡ gs ++ (x, k) ∷ [] = in_lists_last full _ _ _ (grind (arith, common_steps)) in
    subst (λ q. Up D X a.keys a.meaning a.flat a.belongs closed v0 w0 gs q next) (sym c.close-resolver.ensures) (up_more D X a.keys a.meaning a.flat a.belongs closed v0 w0 fs gs x k r now popped kept next c.serialize_inner.ensures.goes_on c.in-Ok-serialize_inner.at c.in-Ok-serialize_inner.ensures.boxed)

pub returns-in-Err-serialize_inner : goal.returns-in-Err-serialize_inner
returns-in-Err-serialize_inner g c =
    let D = g.T.Archived.ArchivePointee.definitions in
    let X = g.T.Archived.Portable.shape in
    let a = g.T.Archive in
    let closed = g.T.ChainSource.closed in
    let v0 = c.args.value.now in
    let w0 = g.S.Keys.state c.args.serializer.now in
    let kept = c.loop-rest-2.invariant in
    let full = c.loop-rest.full.items in
    let fs = in_lists full c.loop-rest-2.chain.items in
    let gs = in_lists full c.pop.new.self.items in
    let r = c.loop-rest-2.resolver in
    let now = g.S.Keys.state c.loop-rest-2.serializer in
    let x = c.in-Some-pop.rest in
    let k = c.in-Some-pop.kept in
    let next = g.S.Keys.state c.serialize_inner.new.serializer in
    let popped : fs ≡ gs ++ (x, k) ∷ [] = in_lists_last full _ _ _ (grind (arith, common_steps)) in
    record {
      serialized = search rules;
      same_value = search rules;
      goes_on = goes_both _ _ _ (up_goes D X a.keys a.meaning a.flat a.belongs closed v0 w0 fs r now kept) c.serialize_inner.ensures.goes_on;
      refused = up_refused D X a.keys a.meaning a.flat a.belongs closed v0 w0 fs gs x k r now popped kept next c.serialize_inner.ensures.goes_on _ c.in-Err-serialize_inner.ensures.refused;
    }

pub loop-rest-smaller : goal.loop-rest-smaller
loop-rest-smaller g c = grind (arith, common_steps)

pub loop-rest-preserved : goal.loop-rest-preserved
loop-rest-preserved g c =
    let D = g.T.Archived.ArchivePointee.definitions in
    let X = g.T.Archived.Portable.shape in
    let a = g.T.Archive in
    let closed = g.T.ChainSource.closed in
    let v0 = c.args.value.now in
    let w0 = g.S.Keys.state c.args.serializer.now in
    let none : c.loop-rest-2.chain.items ≡ [] = grind (arith, common_steps) in
    let outer : c.loop-rest.full.items ≡ c.pop-in-loop-rest.new.self.items ++ c.in-Some-pop-2.outer ∷ [] = grind (arith, common_steps) in
    subst (λ xs. Up D X a.keys a.meaning a.flat a.belongs closed v0 w0 xs c.loop-rest-2.resolver (g.S.Keys.state c.loop-rest-2.serializer)) (in_lists_outer _ _ _ _ outer none) c.loop-rest-2.invariant

pub returns-in_default-pop-2 : goal.returns-in_default-pop-2
returns-in_default-pop-2 g c =
    let D = g.T.Archived.ArchivePointee.definitions in
    let X = g.T.Archived.Portable.shape in
    let a = g.T.Archive in
    let closed = g.T.ChainSource.closed in
    let v0 = c.args.value.now in
    let w0 = g.S.Keys.state c.args.serializer.now in
    let kept = c.loop-rest-2.invariant in
    let fs = in_lists c.loop-rest.full.items c.loop-rest-2.chain.items in
    let r = c.loop-rest-2.resolver in
    let now = g.S.Keys.state c.loop-rest-2.serializer in
    let no_lists : c.loop-rest.full.items ≡ [] = grind (arith, common_steps) in
    let no_boxes : c.loop-rest-2.chain.items ≡ [] = grind (arith, common_steps) in
    let none : fs ≡ [] = in_lists_none _ _ no_lists no_boxes in
    let done = up_ends D X a.keys a.meaning a.flat a.belongs closed v0 w0 r now (subst (λ xs. Up D X a.keys a.meaning a.flat a.belongs closed v0 w0 xs r now) none kept) in
    record {
      serialized = done.0;
      same_value = done.1;
      goes_on = up_goes D X a.keys a.meaning a.flat a.belongs closed v0 w0 fs r now kept;
      refused = search rules;
    }
