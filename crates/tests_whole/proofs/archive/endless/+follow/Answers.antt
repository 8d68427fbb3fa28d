use Rattle.std.proofs.Common.{◌≡◌, ◌∙◌, ◌+◌, refl, sym, slice_index}
use Rattle.archive_core.proofs.Causes.{err_from}
use Rattle.tests_whole.specs.LoopShape.{loop_tag}
use Rattle.tests_whole.proofs.Loops.{pending_there, refused_there}
use Rattle.tests_whole.proofs.archive.endless.+follow.Goals as goal

pub returns-in-Pending : goal.returns-in-Pending
returns-in-Pending g t c =
    let a = c.at-view.ensures in
    let p = c.payload-pointer.ensures in
    let i = c.get.ensures in
    let r = c.part-inner.ensures in
    let tag : slice_index c.at-view.result.bytes.now c.at-view.result.pos ≡ 0 = sym c.tag-tag.ensures.value ∙ loop_tag _ c.tag-tag.ensures.known in
    let first : slice_index c.args.part.bytes.now c.args.part.pos ≡ 0 = rw (a.buffer, a.position) at tag in
    let there : c.payload-pointer.result.pos ≡ c.at-view.result.pos + 4 = rw tag at p.position in
    let viewed = rw (p.buffer, p.length, there, a.buffer, a.position) at c.payload-pointer.result.valid in
    let pending = rw (r.position, i.position, p.buffer, there, a.buffer, a.position, c.in-Pending.is) at c.in_ok-start_pooling.ensures.answer in
    record { none = refl; refused = pending_there c.args.part.bytes.now c.args.part.pos c.args.part.len first viewed g.D.Entries.keeps _ pending }

pub returns-in-Started : goal.returns-in-Started
returns-in-Started g t c =
    let a = c.at-view.ensures in
    let p = c.payload-pointer.ensures in
    let i = c.get.ensures in
    let r = c.part-inner.ensures in
    let tag : slice_index c.at-view.result.bytes.now c.at-view.result.pos ≡ 0 = sym c.tag-tag.ensures.value ∙ loop_tag _ c.tag-tag.ensures.known in
    let first : slice_index c.args.part.bytes.now c.args.part.pos ≡ 0 = rw (a.buffer, a.position) at tag in
    let there : c.payload-pointer.result.pos ≡ c.at-view.result.pos + 4 = rw tag at p.position in
    let viewed = rw (p.buffer, p.length, there, a.buffer, a.position) at c.payload-pointer.result.valid in
    let after = rw (r.position, i.position, p.buffer, there, a.buffer, a.position) at c.in_ok-start_pooling.ensures.after in
    let unknown = rw (r.position, i.position, p.buffer, there, a.buffer, a.position, c.in-Started.is) at c.in_ok-start_pooling.ensures.answer in
    let h = rw (r.buffer, r.position, r.length, i.buffer, i.position, i.length, p.buffer, there, a.buffer, a.position) at c.follow.ensures.refused in
    record {
      none = c.follow.ensures.none;
      refused = err_from c.follow.result h (λ e refused. refused_there c.args.part.bytes.now c.args.part.pos c.args.part.len first viewed g.D.Entries.keeps _ _ e
          (g.D.Entries.keeps_nothing _) (g.D.Entries.keeps_nothing _) after unknown refused);
    }
