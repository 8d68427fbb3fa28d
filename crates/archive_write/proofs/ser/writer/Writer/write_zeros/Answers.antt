use Rattle.std.proofs.Common.{ℕ, ◌≡◌, arith, replicate, take}
use Rattle.std.proofs.lemmas.List.{take-replicate}
use Rattle.archive_write.proofs.ser.writer.Writer.write_zeros.Goals as goal

pub returns-clause-written : goal.returns-clause-written
returns-clause-written g c =
    let zeros : take c.args.n (replicate {A = ℕ} 32 0) ≡ replicate {A = ℕ} c.args.n 0 = take-replicate c.args.n 32 0 (omega arith) in
    rw (← zeros) c.write.ensures.written
