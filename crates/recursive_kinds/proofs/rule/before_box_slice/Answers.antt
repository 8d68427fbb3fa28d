-- Written by tools/derive: change the declaration, and run it again.
use Rattle.std.proofs.Common.{◌≡◌, ℕ, List, [], Contains, None, ap, refl}
use Rattle.std.proofs.Math.Logic.{∥∥₁_elim}
use Rattle.std.proofs.lemmas.List.Elements.{Contains-push}
use Rattle.std.specs.Coded.{le_prop}
use Rattle.archive_core.specs.Layout.{size_of}
use Rattle.archive_core.specs.Readable.{position, target_from}
use Rattle.archive_core.specs.Reads.{SchemaTable, pointer_at, reads_boxed}
use Rattle.archive_core.specs.Shape.{Shape, boxed, one, run}
use Rattle.archive_core.specs.Tour.{Contents, contents_one}
use Rattle.archive_core.specs.Value.{Value, pointers}
use Rattle.recursive_kinds.proofs.rule.before_box_slice.Goals as goal

has_pointer : (bytes : List ℕ) (q n : ℕ) (X : Shape) (s : SchemaTable) (v : Value) → Contents s bytes q (one (boxed (run X))) n v → Contains (pointers v) (pointer_at bytes q None (run X))
has_pointer bytes q n X s v (contents_one reads_boxed) = Contains-push [] (pointer_at bytes q None (run X))

pub returns-clause-ends : goal.returns-clause-ends
returns-clause-ends g c =
    let b = c.args.part.bytes.now in let q = c.args.part.pos in let n = c.args.part.len in let X = g.X.Portable.shape in let P = one (boxed (run X)) in let p = pointer_at b q None (run X) in
    rw (c.get.ensures.position, c.get.ensures.length, c.at-view.ensures.buffer, c.at-view.ensures.position) (∥∥₁_elim c.requires le_prop (λ (s, k, l).
    let (w, r) = c.parts_reached.ensures s b l.root l.shape l.accepted q P n l.part in
    let has = has_pointer b q n X s r.value r.reads in
    let (t, e, u, i) = c.pointers_reached.ensures s b l.root l.shape q P n w r p has in
    let lands : target_from b q q ≡ t = ap position e in
    let sized : size_of s.layouts X ≡ g.X.Portable.layout.size = ap (λ l. l.size) (g.met.X.Portable.has_layout.solved s k) in
    let ends = c.unique_before.ensures s b q P n r.value p t k.laid_out l r.reads has refl e in
    rw lands (rw sized at ends)))
