-- Keys that are checked at once, and entries whose values are: what comes of each, one lemma an exit.
use Rattle.std.proofs.Common.{◌≡◌, ℕ, refl, ◌+◌, ◌-◌, ◌<◌, List, Option, Some, None}
use Rattle.archive_check.specs.declared.format.error.Error.{Error}
use Rattle.archive_check.specs.declared.format.error.Error.TheVariants.{UnsortedKeys}
use Rattle.archive_check.specs.declared.format.expr.Key.{Key as KeyExpr}
use Rattle.archive_check.specs.Expressions.{key_of}
use Rattle.archive_check.specs.Keys.{ComesBehind}
use Rattle.archive_check.specs.Tour.{Seen}
use Rattle.archive_check.specs.Trail.{Fault, unsorted}
use Rattle.archive_check.specs.Outcomes.{Outcome, done, refused}
use Rattle.archive_schema.specs.declared.check.Checker.{Checker}
use Rattle.archive_schema.specs.check.Runs.{NodeRuns, OrderRuns, EntryTakes, EntriesRun, order_key, order_wrong, order_kept, entries_end, entries_key, entries_value, entries_next}
use Rattle.archive_schema.specs.check.LoopInvariant.{Stage}
use Rattle.archive_schema.specs.check.Through.{Rule, Passed, PassesFrom, node_rule, key_rule, order_rule, entries_rule, Towards}
use Rattle.archive_schema.proofs.check.AtOnce.{towards_then, towards_stops, towards_end, passes_refused}

-- a key, and its place behind the one before
module _ {m : Checker} {key : KeyExpr} {j p : ℕ} {before : Option ℕ} where
  pub order_stopped : {x y : Stage} {fault : Error} → PassesFrom (key_rule m key j p) x y None fault → PassesFrom (order_rule m key j before p) x y None fault
  order_stopped h = record { some = tt; none = λ some. let f = h.none some in (f.0, f.1, λ pending seen. order_key (f.2 pending seen)) }

  pub order_refused : {x w y : Stage} {r : Option (Unit {0})} {fault : Error} → Passed (key_rule m key j p) x w → (ComesBehind (key_of key) m.bytes.now before p → ⊥) → r ≡ None → fault ≡ UnsortedKeys → PassesFrom (order_rule m key j before p) x y r fault
  order_refused h wrong none is = passes_refused none is (λ some. (unsorted, refl, λ pending seen. order_wrong (h.through.runs some pending seen) wrong))

  pub order_passed : {x y : Stage} {u : Unit {0}} {fault : Error} → Passed (key_rule m key j p) x y → ComesBehind (key_of key) m.bytes.now before p → PassesFrom (order_rule m key j before p) x y (Some u) fault
  order_passed h behind = record {
    some = record {
      through = record { end = h.through.end; depth = h.through.depth; runs = λ some pending seen. order_kept (h.through.runs some pending seen) behind };
      list = h.list;
      positions = h.positions;
    };
    none = tt;
  }

-- behind its key, the value of an entry at p, and then the entries that are left
data ValueRuns (m : Checker) (key : KeyExpr) (j offset size n p : ℕ) : List ℕ → Option ℕ → ℕ → ℕ → Seen → Outcome → Type 0 where
  value_next : {pending : List ℕ} {depth : Option ℕ} {stop start mid : ℕ} {seen known : Seen} {o : Outcome} → NodeRuns m pending depth stop j (p + offset) start seen (done mid known) → EntriesRun m pending depth stop key j (Some p) (n - 1) (p + size) mid known o → ValueRuns m key j offset size n p pending depth stop start seen o
  value_stop : {pending : List ℕ} {depth : Option ℕ} {stop start : ℕ} {seen : Seen} {e : Fault} → NodeRuns m pending depth stop j (p + offset) start seen (refused e) → ValueRuns m key j offset size n p pending depth stop start seen (refused e)

abbrev value_rule : Checker → KeyExpr → ℕ → ℕ → ℕ → ℕ → ℕ → Rule
value_rule m key j offset size n p pending depth stop start seen o = ValueRuns m key j offset size n p pending depth stop start seen o

module _ {m : Checker} {key : KeyExpr} {j offset size : ℕ} (takes : EntryTakes m key j offset size) where
  with_value : {pending : List ℕ} {depth : Option ℕ} {stop n p start mid : ℕ} {before : Option ℕ} {seen known : Seen} {o : Outcome} → 0 < n → OrderRuns m pending depth stop key j before p start seen (done mid known)
      → ValueRuns m key j offset size n p pending depth stop mid known o → EntriesRun m pending depth stop key j before n p start seen o
  with_value lt first (value_next v rest) = entries_next lt first takes v rest
  with_value lt first (value_stop v) = entries_value lt first takes v

  -- the next key comes behind the one before
  towards_value : {R : Rule} {before : Option ℕ} {n p : ℕ} {x y w : Stage} → 0 < n → Towards R (entries_rule m key j before n p) x y → Passed (order_rule m key j before p) y w → Towards R (value_rule m key j offset size n p) x w
  towards_value {before = before} {n = n} {p = p} lt towards passed =
      towards_then {Q2 = value_rule m key j offset size n p} towards passed (λ pending seen o first r. with_value {n = n} {p = p} {before = before} lt first r)

  -- one entry more
  pub towards_entry : {R : Rule} {before : Option ℕ} {n p q : ℕ} {x y w v : Stage} → 0 < n → q ≡ p + size → Towards R (entries_rule m key j before n p) x y → Passed (order_rule m key j before p) y w → Passed (node_rule m j (p + offset)) w v → Towards R (entries_rule m key j (Some p) (n - 1) q) x v
  towards_entry {n = n} {p = p} {q = q} lt at towards first passed =
      towards_then {Q2 = entries_rule m key j (Some p) (n - 1) q} (towards_value lt towards first) passed (λ pending seen o v r. value_next v (rw at at r))

  -- the value is refused
  pub value_stops : {R : Rule} {before : Option ℕ} {n p : ℕ} {x y w v : Stage} {e : Error} → 0 < n → Towards R (entries_rule m key j before n p) x y → Passed (order_rule m key j before p) y w → PassesFrom (node_rule m j (p + offset)) w v None e → PassesFrom R x v None e
  value_stops {p = p} {e = e} lt towards first h = record { some = tt; none = towards_stops (node_rule m j (p + offset)) e (towards_value lt towards first) h.none (λ pending seen f r. value_stop r) }

-- the key is refused
pub key_stops : {R : Rule} {m : Checker} {key : KeyExpr} {j n p : ℕ} {before : Option ℕ} {x y w : Stage} {e : Error} → 0 < n → Towards R (entries_rule m key j before n p) x y → PassesFrom (order_rule m key j before p) y w None e → PassesFrom R x w None e
key_stops {m = m} {key = key} {j = j} {p = p} {before = before} {e = e} lt towards h = record { some = tt; none = towards_stops (order_rule m key j before p) e towards h.none (λ pending seen f r. entries_key lt r) }

-- no entry is left
pub entries_over : {R : Rule} {m : Checker} {key : KeyExpr} {j n p : ℕ} {before : Option ℕ} {x y : Stage} {u : Unit {0}} {fault : Error} → n ≡ 0 → Towards R (entries_rule m key j before n p) x y → PassesFrom R x y (Some u) fault
entries_over none towards = record { some = towards_end towards (λ pending seen. entries_end none); none = tt }
