-- What is checked at once, with nothing listed: what comes of it, whatever is seen and pending.
use denote.Triple.Both.{Both}
use denote.Ref.{MutBor}
use Rattle.std.specs.Prelude.{◌≡◌, ◌≢◌, ℕ, ◌+◌, ◌-◌, ◌*◌, ◌<◌, ◌≤◌, ℤ, List, Option, OnSome, IfSome, IfNone, Bool, IsTrue, false}
use Rattle.archive_check.specs.declared.context.Context as Context
use Rattle.archive_check.specs.declared.format.error.Error.{Error}
use Rattle.archive_schema.specs.declared.plan.PointeeKind.{PointeeKind}
use Rattle.archive_schema.specs.declared.plan.Span.{Span}
use Rattle.archive_schema.specs.declared.plan.PointeeKind.TheVariants.{Text}
use Rattle.archive_schema.specs.declared.check.Checker.{Checker}
use Rattle.archive_schema.specs.declared.check.worklist.Worklist.{Worklist}
use Rattle.archive_check.specs.context.Ranges.{RangeState}
use Rattle.archive_check.specs.context.PositionStates.{Positions}
use Rattle.archive_check.specs.Tour.{Seen}
use Rattle.archive_check.specs.Trail.{Fault}
use Rattle.archive_check.specs.Words.Faults.{IsFor}
use Rattle.archive_check.specs.Outcomes.{Outcome, done, refused}
use Rattle.archive_check.specs.declared.format.expr.Key.{Key as KeyExpr}
use Rattle.archive_schema.specs.check.Runs.{NodeRuns, PartsRun, ElementsRun, StringRuns, KeyRuns, OrderRuns, EntriesRun, EnterRuns, ContentsRun}
use Rattle.archive_schema.specs.check.Lists.{list_of}
use Rattle.archive_schema.specs.check.LoopInvariant.{Stage, stage}
use Rattle.archive_check.specs.context.FreshContexts.{HasLevels}

-- A rule of the check, by what is pending, the levels left, the range's end and start, what is seen, and the outcome.
abbrev pub Rule : Type 1
Rule = List ℕ → Option ℕ → ℕ → ℕ → Seen → Outcome → Type 0

-- The node i at p.
abbrev pub node_rule : Checker → ℕ → ℕ → Rule
node_rule m i p pending depth stop start seen o = NodeRuns m pending depth stop i p start seen o

-- The parts from a up to b, of what begins at p.
abbrev pub parts_rule : Checker → ℕ → ℕ → ℕ → Rule
parts_rule m a b p pending depth stop start seen o = PartsRun m pending depth stop a b p start seen o

-- The parts of a variant, of what begins at p.
abbrev pub span_rule : Checker → Span → ℕ → Rule
span_rule m x p = parts_rule m x.first x.last p

-- n of the node j, the first at p.
abbrev pub elements_rule : Checker → ℕ → ℕ → ℕ → Rule
elements_rule m j n p pending depth stop start seen o = ElementsRun m pending depth stop j n p start seen o

-- The string at p, whose text's node is j.
abbrev pub string_rule : Checker → ℕ → ℕ → Rule
string_rule m j p pending depth stop start seen o = StringRuns m pending depth stop j p start seen o

-- The key at p, in an entry whose value's node is j.
abbrev pub key_rule : Checker → KeyExpr → ℕ → ℕ → Rule
key_rule m key j p pending depth stop start seen o = KeyRuns m pending depth stop key j p start seen o

-- That key, and that it comes behind the one before.
abbrev pub order_rule : Checker → KeyExpr → ℕ → Option ℕ → ℕ → Rule
order_rule m key j before p pending depth stop start seen o = OrderRuns m pending depth stop key j before p start seen o

-- n entries of a key and of the node j, the first at p, and the key before them.
abbrev pub entries_rule : Checker → KeyExpr → ℕ → Option ℕ → ℕ → ℕ → Rule
entries_rule m key j before n p pending depth stop start seen o = EntriesRun m pending depth stop key j before n p start seen o

-- The region that a pointer leads to.
abbrev pub region_rule : Checker → PointeeKind → ℕ → ℕ → ℤ → Rule
region_rule m target j n where_to pending depth stop start seen o = EnterRuns m pending depth stop target j n where_to start seen o

-- What that region holds, z bytes at t.
abbrev pub contents_rule : Checker → PointeeKind → ℕ → ℕ → ℕ → ℕ → Rule
contents_rule m target j n z t pending depth stop start seen o = ContentsRun m pending depth target j n z t start seen o

-- The rule is gone through, from one range to the next: regions may end where they might before, and as many levels are left.
pub record Through (R : Rule) (s s' : RangeState) : Type 0 where
  pub end : s'.end ≡ s.end
  pub depth : HasLevels s.depth → s'.depth ≡ s.depth
  pub runs : HasLevels s.depth → (pending : List ℕ) (seen : Seen) → R pending s.depth s.end s.start seen (done s'.start seen)

-- The rule comes to this refusal.
abbrev pub Stops : Rule → RangeState → Error → Type 0
Stops R s e = HasLevels s.depth → (f : Fault) × IsFor f e × ((pending : List ℕ) (seen : Seen) → R pending s.depth s.end s.start seen (refused f))

-- The rule is gone through, and no entry is left and no position met.
pub record Passed (R : Rule) (x y : Stage) : Type 0 where
  pub through : Through R x.range y.range
  pub list : y.work ≡ x.work
  pub positions : y.met ≡ x.met

-- So it is, or (None) the rule comes to a refusal.
pub record PassesFrom (R : Rule) (x y : Stage) (result : Option (Unit {0})) (fault : Error) : Type 0 where
  pub some : OnSome result (Passed R x y)
  pub none : IfNone result (Stops R x.range fault)

-- A rule comes to whatever another one comes to, from one stage to the next.
pub record Towards (R Q : Rule) (x y : Stage) : Type 0 where
  pub end : y.range.end ≡ x.range.end
  pub depth : HasLevels x.range.depth → y.range.depth ≡ x.range.depth
  pub leads : HasLevels x.range.depth → (pending : List ℕ) (seen : Seen) (o : Outcome) → Q pending x.range.depth x.range.end y.range.start seen o → R pending x.range.depth x.range.end x.range.start seen o
  pub list : y.work ≡ x.work
  pub positions : y.met ≡ x.met

-- The first of n elements of the node j, each of z bytes, are gone through, from one stage to the next.
pub record FrontPassed (m : Checker) (j n p z : ℕ) (x y : Stage) (k : ℕ) : Type 0 where
  pub few : k ≤ n
  pub towards : Towards (elements_rule m j n p) (elements_rule m j (n - k) (p + k * z)) x y

-- So are as many as the result says, or (None) the elements come to a refusal.
pub record FrontFrom (m : Checker) (j n p z : ℕ) (x y : Stage) (result : Option ℕ) (fault : Error) : Type 0 where
  pub some : IfSome result (λ k. FrontPassed m j n p z x y k)
  pub none : IfNone result (Stops (elements_rule m j n p) x.range fault)

-- It is where it is one of those that the call knows (true), and else nothing changed.
pub record TestsFrom (R : Rule) (Other : Type 0) (x y : Stage) (result : Option Bool) (fault : Error) : Type 0 where
  pub known : IfSome result (λ known. IsTrue known → Passed R x y)
  pub other : IfSome result (λ known. known ≡ false → Other × (y ≡ x))
  pub none : IfNone result (Stops R x.range fault)

-- What a check is at, by its context and its list. `Both` is a parameter as a clause names it: what it was as the call began, and what it is at the return.
abbrev pub stage_of : {A : Type 0} → (A → RangeState) → (A → Positions) → A → Worklist → Stage
stage_of range met context work = stage (range context) (met context) (list_of work)

-- So as a call begins; so at its return.
abbrev pub stage_before : {A : Type 0} → Context.Ghosts A → Both (MutBor A) (MutBor A) → Both (MutBor Worklist) (MutBor Worklist) → Stage
stage_before k c w = stage_of k.state k.positions c.entry.now w.entry.now

abbrev pub stage_behind : {A : Type 0} → Context.Ghosts A → Both (MutBor A) (MutBor A) → Both (MutBor Worklist) (MutBor Worklist) → Stage
stage_behind k c w = stage_of k.state k.positions c.exit.now w.exit.now

-- A call goes through a rule, from one context and list to the next.
abbrev pub Passes : {A : Type 0} → Context.Ghosts A → Rule → Both (MutBor A) (MutBor A) → Both (MutBor Worklist) (MutBor Worklist) → Option (Unit {0}) → Type 0
Passes k R c w result = PassesFrom R (stage_before k c w) (stage_behind k c w) result w.exit.now.fault

-- Likewise where it knows the rule.
abbrev pub PassesIf : {A : Type 0} → Context.Ghosts A → Rule → Both (MutBor A) (MutBor A) → Both (MutBor Worklist) (MutBor Worklist) → Option Bool → Type 0
PassesIf k R c w result = TestsFrom R (Unit {0}) (stage_before k c w) (stage_behind k c w) result w.exit.now.fault

-- Likewise through the first of some elements.
abbrev pub PassesFront : {A : Type 0} → Context.Ghosts A → Checker → ℕ → ℕ → ℕ → ℕ → Both (MutBor A) (MutBor A) → Both (MutBor Worklist) (MutBor Worklist) → Option ℕ → Type 0
PassesFront k m j n p z c w result = FrontFrom m j n p z (stage_before k c w) (stage_behind k c w) result w.exit.now.fault

-- A call goes through a region that a pointer leads to.
abbrev pub PassesRegion : {A : Type 0} → Context.Ghosts A → Checker → PointeeKind → ℕ → ℕ → ℤ → Both (MutBor A) (MutBor A) → Both (MutBor Worklist) (MutBor Worklist) → Option (Unit {0}) → Type 0
PassesRegion k m target j n where_to c w result = Passes k (region_rule m target j n where_to) c w result

-- A call goes through what a region holds, z bytes at t, where that is shallow or has no byte; else there are bytes, and they are no text.
abbrev pub PassesHeld : {A : Type 0} → Context.Ghosts A → Checker → PointeeKind → ℕ → ℕ → ℕ → ℕ → Both (MutBor A) (MutBor A) → Both (MutBor Worklist) (MutBor Worklist) → Option Bool → Type 0
PassesHeld k m target j n t z c w result =
    TestsFrom (contents_rule m target j n z t) ((0 < z) × (target ≢ Text)) (stage_before k c w) (stage_behind k c w) result w.exit.now.fault
