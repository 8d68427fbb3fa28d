-- What each turn of the check keeps, and why the turns end.
use Rattle.std.specs.Prelude.{◌≡◌, ◌≢◌, ◌⊎◌, ℕ, zero, suc, ◌+◌, ◌-◌, ◌*◌, ◌<◌, ◌≤◌, max, ℤ, pos, negsuc, ◌+ℤ◌, List, [], ◌∷◌, length, Option, Some, None, Contains, IfSome, IsTrue, Bool, true, false}
use Rattle.std.specs.FinMap.{get}
use Rattle.archive_check.specs.declared.format.error.Error.{Error}
use Rattle.archive_check.specs.declared.format.error.Error.TheVariants.{OutOfMemory}
use Rattle.archive_schema.specs.declared.plan.PointeeKind.{PointeeKind}
use Rattle.archive_schema.specs.declared.plan.PointeeKind.TheVariants.{One}
use Rattle.archive_schema.specs.declared.plan.Part.{Part}
use Rattle.archive_check.specs.declared.context.positions.SharedType.{SharedType}
use Rattle.archive_schema.specs.declared.check.Checker.{Checker}
use Rattle.archive_schema.specs.declared.check.worklist.Work.{Work}
use Rattle.archive_schema.specs.declared.check.worklist.Work.TheVariants.{Part as PartWork, Parts, Elements, Entries, Leave, Finish}
use Rattle.archive_check.specs.context.Ranges.{RangeState}
use Rattle.archive_check.specs.context.PositionStates.{Positions, IsFinishedAs}
use Rattle.archive_check.specs.Tour.{Seen, Entry}
use Rattle.archive_check.specs.Trail.{Fault}
use Rattle.archive_check.specs.declared.format.expr.Kind.{Kind as KindExpr}
use Rattle.archive_check.specs.declared.format.expr.Key.{Key as KeyExpr}
use Rattle.archive_schema.specs.declared.plan.NodeKind.TheVariants.{Free, Leaf}
use Rattle.archive_check.specs.Expressions.{kind_of, key_of, flavor_of, pointee_of}
use Rattle.archive_check.specs.Shape.{Flavor, Pointee}
use Rattle.archive_check.specs.Layout.{kind_size, key_size}
use Rattle.archive_check.specs.Reads.{bytes_at, i32_at, IsLegal}
use Rattle.archive_check.specs.Outcomes.{Outcome, done, refused}
use Rattle.archive_schema.specs.check.Runs.{Takes, EntryTakes, pointee_count, pointee_length, entry_for, IsNode, NodeRuns, ContentsRun, EnterRuns, FollowRuns, ListRuns}
use Rattle.archive_check.specs.Words.Elements.{IsAt, span}
use Rattle.archive_check.specs.Words.Faults.{IsFor}
use Rattle.archive_check.specs.context.FreshContexts.{HasLevels}

-- n of the node j may be pointed to.
pub record PointeeFits (m : Checker) (target : PointeeKind) (j n : ℕ) : Type 0 where
  pub known : j < length m.nodes.now
  pub few : n < 18446744073709551616
  pub one : target ≡ One → n ≡ 1

-- Each part has a size, and lies in the bytes where it begins at its offset from p.
abbrev pub PartsHere : Checker → ℕ → List Part → Type 0
PartsHere m p [] = Unit {0}
PartsHere m p (x ∷ xs) = ((y : ℕ) × Takes m x.node y × (p + x.offset + y ≤ length m.bytes.now)) × PartsHere m p xs

-- The node i has a size, and lies in the bytes at p.
pub record PartFits (m : Checker) (i p : ℕ) : Type 0 where
  pub size : ℕ
  pub takes : Takes m i size
  pub fits : p + size ≤ length m.bytes.now

-- So do the parts from a up to b, of what begins at p.
pub record PartsFit (m : Checker) (a b p : ℕ) : Type 0 where
  pub last : b ≤ length m.parts.now
  pub few : b < 18446744073709551616
  pub here : PartsHere m p (span m.parts.now a b)

-- So do n of the node j, one after another.
pub record ElementsFit (m : Checker) (j n p : ℕ) : Type 0 where
  pub size : ℕ
  pub few : n < 18446744073709551616
  pub takes : Takes m j size
  pub fits : p + n * size ≤ length m.bytes.now

-- The key at p lies in the bytes, and so does the one before it.
pub record KeyFits (m : Checker) (key : KeyExpr) (before : Option ℕ) (p : ℕ) : Type 0 where
  pub first : IfSome before (λ q. q + key_size (key_of key) ≤ length m.bytes.now)
  pub here : p + key_size (key_of key) ≤ length m.bytes.now

-- n entries of a key and of the node j have a size, and lie in the bytes from p on; so does the one before them.
pub record EntriesFit (m : Checker) (key : KeyExpr) (j n p : ℕ) (later : Bool) : Type 0 where
  pub offset : ℕ
  pub size : ℕ
  pub few : n < 18446744073709551616
  pub takes : EntryTakes m key j offset size
  pub fits : p + n * size ≤ length m.bytes.now
  pub first : IsTrue later → size ≤ p

-- What remains lies in the bytes, the ranges to come back to lie behind one another, with a byte at least for each region, and shared types are known.
abbrev pub ListFits : Checker → ℕ → List Work → Type 0
ListFits m stop [] = Unit {0}
ListFits m stop (PartWork i p ∷ work) = PartFits m i p × ListFits m stop work
ListFits m stop (Parts a b p ∷ work) = PartsFit m a b p × ListFits m stop work
ListFits m stop (Elements j n p ∷ work) = ElementsFit m j n p × ListFits m stop work
ListFits m stop (Entries key j n p later ∷ work) = EntriesFit m key j n p later × ListFits m stop work
ListFits m stop (Leave x y n ∷ work) = (stop + n < x) × (x ≤ y) × (y ≤ length m.bytes.now) × ListFits m y work
ListFits m stop (Finish k t ∷ work) = (k < length m.shared_types.now) × ListFits m stop work

-- A turn is safe, in any context.
pub record Ready (m : Checker) (s : RangeState) (work : List Work) : Type 0 where
  pub below : s.end ≤ length m.bytes.now
  pub fits : ListFits m s.end work

-- The shared positions that are still to be finished, the innermost first.
abbrev pub pending_in : List Work → List ℕ
pending_in [] = []
pending_in (PartWork i p ∷ work) = pending_in work
pending_in (Parts a b p ∷ work) = pending_in work
pending_in (Elements j n p ∷ work) = pending_in work
pending_in (Entries key j n p later ∷ work) = pending_in work
pending_in (Leave x y n ∷ work) = pending_in work
pending_in (Finish k t ∷ work) = t ∷ pending_in work

-- How many regions are still to be left.
abbrev pub regions_in : List Work → ℕ
regions_in [] = 0
regions_in (PartWork i p ∷ work) = regions_in work
regions_in (Parts a b p ∷ work) = regions_in work
regions_in (Elements j n p ∷ work) = regions_in work
regions_in (Entries key j n p later ∷ work) = regions_in work
regions_in (Leave x y n ∷ work) = 1 + n + regions_in work
regions_in (Finish k t ∷ work) = regions_in work

-- None stands twice.
abbrev pub AreOnce : List ℕ → Type 0
AreOnce [] = Unit {0}
AreOnce (t ∷ ts) = (Contains ts t → ⊥) × AreOnce ts

-- The context met what is seen, and nothing else: a position is finished exactly where it isn't pending. Levels are left, and as many
-- more can be as regions are still to be left.
pub record Agrees (depth : Option ℕ) (met : Positions) (pending : List ℕ) (regions : ℕ) (seen : Seen) : Type 0 where
  pub before : (n : ℕ) → met (negsuc n) ≡ None
  pub new : (t : ℕ) → get seen t ≡ None → met (pos t) ≡ None
  pub begun : (t : ℕ) (e : Entry) → get seen t ≡ Some e → Contains pending t → met (pos t) ≡ Some (record { entry = e; finished = false })
  pub over : (t : ℕ) (e : Entry) → get seen t ≡ Some e → (Contains pending t → ⊥) → met (pos t) ≡ Some (record { entry = e; finished = true })
  pub known : (t : ℕ) → Contains pending t → get seen t ≢ None
  pub once : AreOnce pending
  pub levels : depth ≢ Some 0
  pub few : (d : ℕ) → depth ≡ Some d → d + regions < 18446744073709551616

-- Each shared position that is still to be finished is pending in the context, and none stands twice; levels are left, and as many more can be as
-- regions are still to be left. So it is from the start of a check on, in whatever context it began.
pub record Orderly (depth : Option ℕ) (met : Positions) (pending : List ℕ) (regions : ℕ) : Type 0 where
  pub begun : (t : ℕ) → Contains pending t → (e : Entry) × (met (pos t) ≡ Some (record { entry = e; finished = false }))
  pub once : AreOnce pending
  pub levels : depth ≢ Some 0
  pub few : (d : ℕ) → depth ≡ Some d → d + regions < 18446744073709551616

-- What a check is at: the range, the positions that the context met, and what is left to do.
pub record Stage : Type 0 where
  pub range : RangeState
  pub met : Positions
  pub work : List Work

-- The range, the positions and the list, as one.
abbrev pub stage : RangeState → Positions → List Work → Stage
stage s met work = record { range = s; met = met; work = work }

-- The context agrees with what is seen and what the list holds.
abbrev pub Agreeing : Stage → Seen → Type 0
Agreeing x seen = Agrees x.range.depth x.met (pending_in x.work) (regions_in x.work) seen

-- The context is in order with what the list holds.
abbrev pub IsOrderly : Stage → Type 0
IsOrderly x = Orderly x.range.depth x.met (pending_in x.work) (regions_in x.work)

-- First this, and then the list.
pub data Then (m : Checker) (pending : List ℕ) (depth : Option ℕ) (stop : ℕ) (First : Outcome → Type 0) (work : List Work) : Outcome → Type 0 where
  and_then : {mid : ℕ} {known : Seen} {o : Outcome} → First (done mid known) → ListRuns m pending depth stop work mid known o → Then m pending depth stop First work o
  stops : {e : Fault} → First (refused e) → Then m pending depth stop First work (refused e)

-- What comes of the list.
abbrev pub Listing : Checker → Stage → Seen → Outcome → Type 0
Listing m x seen o = ListRuns m (pending_in x.work) x.range.depth x.range.end x.work x.range.start seen o

-- What comes of a region that is entered, and then of the list.
abbrev pub Entering : Checker → PointeeKind → ℕ → ℕ → ℤ → Stage → Seen → Outcome → Type 0
Entering m target j n where_to x seen o =
    Then m (pending_in x.work) x.range.depth x.range.end (EnterRuns m (pending_in x.work) x.range.depth x.range.end target j n where_to x.range.start seen) x.work o

-- What comes of the shared pointer at p that is followed, and then of the list.
abbrev pub Following : Checker → ℕ → PointeeKind → ℕ → ℕ → Stage → Seen → Outcome → Type 0
Following m k target j p x seen o =
    Then m (pending_in x.work) x.range.depth x.range.end
    (FollowRuns m (pending_in x.work) x.range.depth x.range.end k target j (pointee_count m.bytes.now p target) (pointee_length m.bytes.now p target) (pos p +ℤ i32_at m.bytes.now p) x.range.start seen)
    x.work o

-- The context stays in order; and whatever comes of the list that is left came of what was before, and the context agrees again.
pub record TurnLeads (m : Checker) (Before : Stage → Seen → Outcome → Type 0) (x y : Stage) : Type 0 where
  pub keeps : IsOrderly x → IsOrderly y
  pub leads : (seen : Seen) → Agreeing x seen → (last : Seen) × Agreeing y last × ((o : Outcome) → Listing m y last o → Before x seen o)

-- The refusal says a fault, in a context that is in order, and the fault is what comes of what was before, where the context agrees.
abbrev pub TurnRefuses : (Stage → Seen → Outcome → Type 0) → Stage → Error → Type 0
TurnRefuses Before x e = (e ≡ OutOfMemory) ⊎ (IsOrderly x → (f : Fault) × IsFor f e × ((seen : Seen) → Agreeing x seen → Before x seen (refused f)))

-- A region isn't entered, whatever is seen and pending.
abbrev pub IsStopped : Checker → PointeeKind → ℕ → ℕ → ℤ → RangeState → Error → Type 0
IsStopped m target j n where_to s e =
    (e ≡ OutOfMemory)
    ⊎ (HasLevels s.depth → (f : Fault) × IsFor f e × ((pending : List ℕ) (seen : Seen) → EnterRuns m pending s.depth s.end target j n where_to s.start seen (refused f)))

-- What a region of n holds, z bytes at t, is legal as it lies, and leads nowhere.
abbrev pub RegionIsLegalHere : Checker → PointeeKind → ℕ → ℕ → ℕ → ℕ → Type 0
RegionIsLegalHere m target j n z t = (pending : List ℕ) (depth : Option ℕ) (start : ℕ) (seen : Seen) → ContentsRun m pending depth target j n z t start seen (done start seen)

-- The node at p is legal as it lies, and leads nowhere.
abbrev pub IsLegalHere : Checker → ℕ → ℕ → Type 0
IsLegalHere m i p = (pending : List ℕ) (depth : Option ℕ) (stop start : ℕ) (seen : Seen) → NodeRuns m pending depth stop i p start seen (done start seen)

-- The node at p leads to nothing that is still to be checked, in a context that met these positions.
abbrev pub LeadsNowhere : Checker → Positions → ℕ → ℕ → Type 0
LeadsNowhere m met i p =
    (depth : Option ℕ) (pending : List ℕ) (regions stop start : ℕ) (seen : Seen) → Agrees depth met pending regions seen → NodeRuns m pending depth stop i p start seen (done start seen)

-- The shared type k is one of which this is so: a context has a number of it.
pub record HasNumber (m : Checker) (numbered : Flavor → Pointee → Type 0) (k : ℕ) : Type 0 where
  pub shared_type : SharedType
  pub at : IsAt m.shared_types.now k shared_type
  pub numbered_is : numbered (flavor_of shared_type.flavor) (pointee_of shared_type.pointee)

-- The shared pointer at p leads to a position that is finished, met as one of its type k and of its length.
pub record LeadsBack (m : Checker) (met : Positions) (k : ℕ) (target : PointeeKind) (p : ℕ) : Type 0 where
  pub shared_type : SharedType
  pub at : IsAt m.shared_types.now k shared_type
  pub finished : IsFinishedAs (met (pos p +ℤ i32_at m.bytes.now p)) (entry_for shared_type (pointee_length m.bytes.now p target))

-- The weak pointer at p is a null, or it leads to such a position.
abbrev pub LeadsBackOrIsNull : Checker → Positions → ℕ → PointeeKind → ℕ → Type 0
LeadsBackOrIsNull m met k target p = (i32_at m.bytes.now p ≡ pos 1) ⊎ ((i32_at m.bytes.now p ≢ pos 1) × LeadsBack m met k target p)

-- The node at p is a leaf that is legal, or may be any bytes.
pub data LiesLegal (m : Checker) (i p : ℕ) : Type 0 where
  lies_free : IsNode m i Free → LiesLegal m i p
  lies_leaf : {kind : KindExpr} → IsNode m i (Leaf kind) → IsLegal (kind_of kind) (bytes_at m.bytes.now p (kind_size (kind_of kind))) → LiesLegal m i p

-- The part of what begins at p is to be opened: it doesn't lie legal.
abbrev pub IsToOpen : Checker → ℕ → Part → Type 0
IsToOpen m p x = ¬ LiesLegal m x.node (p + x.offset)

-- The part k of what begins at p is legal as it lies, and leads nowhere.
pub record PartIsLegalHere (m : Checker) (p k : ℕ) : Type 0 where
  pub part : Part
  pub at : IsAt m.parts.now k part
  pub stays : IsLegalHere m part.node (p + part.offset)

-- A number that grows threefold at each step.
unfoldable pub power : ℕ → ℕ
power zero = 1
power (suc n) = 3 * power n

-- Lexicographic: where regions end, which node, how many.
unfoldable pub level : ℕ → ℕ → ℕ → ℕ → ℕ
level nodes stop i n = (stop * (nodes + 1) + i) * 18446744073709551617 + n

-- Above each node of the parts.
abbrev pub rank : List Part → ℕ
rank [] = 0
rank (x ∷ xs) = max (x.node + 1) (rank xs)

-- What falls at each turn. An entry costs more than those that take its place, however many elements or parts they have.
abbrev pub cost : Checker → ℕ → List Work → ℕ
cost m stop [] = 0
cost m stop (PartWork i p ∷ work) = power (level (length m.nodes.now) stop i 18446744073709551616) + cost m stop work
cost m stop (Parts a b p ∷ work) = power (level (length m.nodes.now) stop (rank (span m.parts.now a b)) (b - a)) + cost m stop work
cost m stop (Elements j n p ∷ work) = power (level (length m.nodes.now) stop (j + 1) n) + cost m stop work
cost m stop (Entries key j n p later ∷ work) = power (level (length m.nodes.now) stop (j + 1) n) + cost m stop work
cost m stop (Leave x y n ∷ work) = 1 + cost m y work
cost m stop (Finish k t ∷ work) = 1 + cost m stop work
