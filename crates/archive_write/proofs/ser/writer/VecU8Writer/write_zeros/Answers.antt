use Rattle.std.proofs.Common.{ℕ, ◌≡◌, ◌+◌, ◌++◌, ◌∙◌, ap, arith, length, replicate, take}
use Rattle.std.proofs.Math.Seq.{take-append-add}
use Rattle.std.proofs.lemmas.List.{take-replicate}
use Rattle.archive_write.proofs.ser.writer.VecU8Writer.write_zeros.Goals as goal

pub returns-then-capacity-len-lt32-clause-written : goal.returns-then-capacity-len-lt32-clause-written
returns-then-capacity-len-lt32-clause-written g c =
    let zeros : take c.args.n (replicate {A = ℕ} 32 0) ≡ replicate {A = ℕ} c.args.n 0 = take-replicate c.args.n 32 0 (omega arith) in
    rw (← zeros) c.write.ensures.written

pub returns-clause-written : goal.returns-clause-written
returns-clause-written g c =
    let held = c.args.self.now.items in
    let zeros : take c.args.n (replicate {A = ℕ} 32 0) ≡ replicate {A = ℕ} c.args.n 0 = take-replicate c.args.n 32 0 (omega arith) in
    let end : c.len-2.result + c.args.n ≡ length held + c.args.n = omega (arith, c.len-2.ensures) in
    c.truncate.ensures.items ∙ ap (λ k. take k c.extend_from_slice.new.self.items) end
    ∙ ap (take (length held + c.args.n)) c.in_ok-extend_from_slice.ensures.items
    ∙ take-append-add held (replicate {A = ℕ} 32 0) c.args.n ∙ ap (λ z. held ++ z) zeros
