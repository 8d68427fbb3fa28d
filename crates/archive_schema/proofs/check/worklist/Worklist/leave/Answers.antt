use Rattle.std.proofs.Common.{◌≡◌, ℕ, sym, ap, ◌∙◌, ◌+◌, ◌<◌, List, [], ◌∷◌, ◌++◌, length, reverse, take, slice_index_or, slice_set, arith}
use Rattle.std.proofs.lemmas.List.{take_all, take_more, take_more_set, length-set, reverse-append}
use Rattle.archive_schema.specs.declared.check.worklist.Work.{Work}
use Rattle.archive_schema.specs.declared.check.worklist.Work.TheVariants.{Leave}
use Rattle.archive_schema.specs.check.Lists.{left_first}
use Rattle.archive_schema.proofs.check.worklist.Worklist.leave.Goals as goal

-- the last entry, which is left next, counts one region more
left_with_last : (xs : List Work) (k a b x y n : ℕ) (last : Work) → k + 1 ≡ length xs → last ≡ slice_index_or xs k last → last ≡ Leave x y n → reverse (slice_set xs k (Leave x y (n + 1))) ≡ left_first a b (reverse xs)
left_with_last xs k a b x y n last all is same =
    let more : Work = Leave x y (n + 1) in
    let front : List Work = take k xs in
    let lt : k < length xs = omega arith in
    let whole : xs ≡ front ++ Leave x y n ∷ [] = sym (take_all (k + 1) xs (omega arith)) ∙ take_more xs k last lt ∙ ap (λ (q : Work). front ++ q ∷ []) (sym is ∙ same) in
    let changed : slice_set xs k more ≡ front ++ more ∷ [] = sym (take_all (k + 1) (slice_set xs k more) (omega (arith, length-set xs k more))) ∙ take_more_set xs k more lt in
    let before : reverse xs ≡ Leave x y n ∷ reverse front = ap reverse whole ∙ reverse-append front (Leave x y n ∷ []) in
    let behind : reverse (slice_set xs k more) ≡ more ∷ reverse front = ap reverse changed ∙ reverse-append front (more ∷ []) in
    behind ∙ sym (ap (left_first a b) before)

pub returns-in-Leave-clause-some : goal.returns-in-Leave-clause-some
returns-in-Leave-clause-some c =
    let v = c.args.self.now.entries in
    let last = c.index.result.now in
    left_with_last v.items c.in-Some.last c.args.start c.args.end c.in-Leave.outer_start c.in-Leave.outer_end c.in-Leave.inner last (omega (arith, v.ok.0, c.in-Some.ensures)) c.index.ensures cc
