use Rattle.std.proofs.Common.{◌≡◌, ℕ, None, Some, refl}
use Rattle.std.proofs.lemmas.Option.{none-some}
use Rattle.archive_check.proofs.Archives.{archive_viewed, is_whole}
use Rattle.archive_core.proofs.api.access_direct.Goals as goal

pub returns-in-Err-clause-answer : goal.returns-in-Err-clause-answer
returns-in-Err-clause-answer g c =
    let fresh = is_whole _ _ c.args.bytes.now None (λ e. none-some 0 e) (λ d e. absurd (none-some d e)) c.new-context.ensures refl in
    record {
      accepted = tt;
      refused = rw c.new-context.ensures at (c.in-Err.ensures.refused c.requires fresh);
      exact = rw c.new-context.ensures at (c.in-Err.ensures.exact c.requires fresh);
    }

pub returns-clause-answer : goal.returns-clause-answer
returns-clause-answer g c =
    let fresh = is_whole _ _ c.args.bytes.now None (λ e. none-some 0 e) (λ d e. absurd (none-some d e)) c.new-context.ensures refl in
    record { accepted = rw c.new-context.ensures at (c.in_default.ensures.accepted c.requires fresh); refused = tt; exact = tt }

pub at-requires : goal.at-requires
at-requires g c =
    let fresh = is_whole _ _ c.args.bytes.now None (λ e. none-some 0 e) (λ d e. absurd (none-some d e)) c.new-context.ensures refl in
    rw g.met.T.Portable.is_one (archive_viewed _ _ _ _ _ (c.in_default.ensures.accepted c.requires fresh))
