use Rattle.std.proofs.lemmas.List.Sorted.{Contains-permutation, IsPermutation-sym}
use Rattle.archive_inspect.proofs.describe.in_order.Goals as goal

pub returns : goal.returns
returns c = λ x h. Contains-permutation _ _ x (IsPermutation-sym _ _ c.sort_unstable_by_key.ensures.permutation) h
