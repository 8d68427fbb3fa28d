-- What comes of one way through an archive comes of another.
use Rattle.std.proofs.Common.{◌≡◌, ℕ, refl, ◌∙◌, List, Option, OnSome, IfNone}
use Rattle.archive_check.specs.declared.format.error.Error.{Error}
use Rattle.archive_check.specs.Reads.{SchemaTable}
use Rattle.archive_check.specs.context.Ranges.{RangeState}
use Rattle.archive_check.specs.Tour.{Seen}
use Rattle.archive_check.specs.Trail.{Fault}
use Rattle.archive_check.specs.Definitions.{Definitions, Knows}
use Rattle.archive_check.specs.Outcomes.{Outcome, done, refused}
use Rattle.archive_check.specs.context.FreshContexts.{HasLevels}
use Rattle.archive_check.specs.SelfCheck.Ways.{Way, Goes, Halts}
use Rattle.archive_check.proofs.SelfCheck.Outcomes.{some_map, none_map}

-- what comes of one way comes of another
module _ (D E : Definitions) (W V : Way) (s : RangeState)
    (known : (t : SchemaTable) → Knows t E → Knows t D)
    (leads : (t : SchemaTable) → Knows t E → (pending : List ℕ) (seen : Seen) (o : Outcome) → W t pending s.depth s.end s.start seen o → V t pending s.depth s.end s.start seen o) where
  pub goes_from : (s' : RangeState) → Goes D W s s' → Goes E V s s'
  goes_from s' g = record { end = g.end; depth = g.depth; runs = λ some t k pending seen. leads t k pending seen (done s'.start seen) (g.runs some t (known t k) pending seen) }

  pub goes_by : (s' : RangeState) (r : Option (Unit {0})) → OnSome r (Goes D W s s') → OnSome r (Goes E V s s')
  goes_by s' r = some_map r (goes_from s')

  pub halts_from : (e : Error) → Halts D W s e → Halts E V s e
  halts_from e h some = let f = h some in (f.0, f.1, λ t k pending seen. leads t k pending seen (refused f.0) (f.2 t (known t k) pending seen))

  pub halts_by : (e : Error) (r : Option (Unit {0})) → IfNone r (Halts D W s e) → IfNone r (Halts E V s e)
  halts_by e r = none_map r (halts_from e)

-- nothing of the range changes
pub goes_same : (D : Definitions) (W : Way) (s : RangeState) → ((t : SchemaTable) → Knows t D → (pending : List ℕ) (seen : Seen) → W t pending s.depth s.end s.start seen (done s.start seen)) → Goes D W s s
goes_same D W s runs = record { end = refl; depth = λ some. refl; runs = λ some. runs }

-- a way comes to whatever another one comes to, from the range s to s'
pub record Toward (D : Definitions) (R Q : Way) (s s' : RangeState) : Type 0 where
  pub end : s'.end ≡ s.end
  pub depth : HasLevels s.depth → s'.depth ≡ s.depth
  pub leads : HasLevels s.depth → (t : SchemaTable) → Knows t D → (pending : List ℕ) (seen : Seen) (o : Outcome) → Q t pending s.depth s.end s'.start seen o → R t pending s.depth s.end s.start seen o

pub toward_same : (D : Definitions) (R : Way) (s : RangeState) → Toward D R R s s
toward_same D R s = record { end = refl; depth = λ some. refl; leads = λ some t k pending seen o q. q }

module _ (D E : Definitions) (R Q N : Way) (s s1 : RangeState) (known : (t : SchemaTable) → Knows t E → Knows t D) (toward : Toward E R Q s s1) where
  pub toward_then : (Q2 : Way) (s2 : RangeState)
      → ((t : SchemaTable) → Knows t E → (pending : List ℕ) (seen : Seen) (o : Outcome) → N t pending s.depth s.end s1.start seen (done s2.start seen) → Q2 t pending s.depth s.end s2.start seen o → Q t pending s.depth s.end s1.start seen o)
      → Goes D N s1 s2 → Toward E R Q2 s s2
  toward_then Q2 s2 to goes =
      let within : HasLevels s.depth → HasLevels s1.depth = λ some. rw (toward.depth some) some in
      record {
        end = goes.end ∙ toward.end;
        depth = λ some. goes.depth (within some) ∙ toward.depth some;
        leads = λ some t k pending seen o q. toward.leads some t k pending seen o (to t k pending seen o (rw (toward.depth some, toward.end) at (goes.runs (within some) t (known t k) pending seen)) q);
      }

  pub toward_halts : (e : Error) → ((t : SchemaTable) → Knows t E → (pending : List ℕ) (seen : Seen) (f : Fault) → N t pending s.depth s.end s1.start seen (refused f) → Q t pending s.depth s.end s1.start seen (refused f)) → Halts D N s1 e → Halts E R s e
  toward_halts e to halts some =
      let f = halts (rw (toward.depth some) some) in
      (f.0, f.1, λ t k pending seen. toward.leads some t k pending seen (refused f.0) (to t k pending seen f.0 (rw (toward.depth some, toward.end) at (f.2 t (known t k) pending seen))))

-- and then the other one is gone
module _ (D E : Definitions) (R Q : Way) (s s1 : RangeState) (known : (t : SchemaTable) → Knows t E → Knows t D) (toward : Toward E R Q s s1) where
  pub toward_goes : (s2 : RangeState) → Goes D Q s1 s2 → Goes E R s s2
  toward_goes s2 goes =
      let within : HasLevels s.depth → HasLevels s1.depth = λ some. rw (toward.depth some) some in
      record {
        end = goes.end ∙ toward.end;
        depth = λ some. goes.depth (within some) ∙ toward.depth some;
        runs = λ some t k pending seen. toward.leads some t k pending seen (done s2.start seen) (rw (toward.depth some, toward.end) at (goes.runs (within some) t (known t k) pending seen));
      }

-- nothing is left of the other one
pub toward_end : (D : Definitions) (R Q : Way) (s s' : RangeState) → Toward D R Q s s' → ((t : SchemaTable) → Knows t D → (pending : List ℕ) (seen : Seen) → Q t pending s.depth s.end s'.start seen (done s'.start seen)) → Goes D R s s'
toward_end D R Q s s' toward over = record {
  end = toward.end;
  depth = toward.depth;
  runs = λ some t k pending seen. toward.leads some t k pending seen (done s'.start seen) (over t k pending seen);
}
