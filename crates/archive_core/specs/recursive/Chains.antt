-- Recursive enums whose boxes of themselves come last: what is written of a value up to its box, and what is read back of it.
use denote.Triple.Both.{Both}
use denote.Ref.{Bor, MutBor}
use Rattle.std.specs.Prelude.{◌≡◌, ℕ, suc, ◌+◌, ◌<◌, Bool, List, [], ◌∷◌, ◌++◌, Vec, Option, Some, None}
use Rattle.archive_check.specs.Shape.{Shape, Pointee, boxed, one}
use Rattle.archive_check.specs.Layout.{Layout}
use Rattle.archive_check.specs.Definitions.{Definitions}
use Rattle.archive_check.specs.Denotes.{Naming}
use Rattle.archive_check.specs.Entries.{ReadsBack, RefusesReading}
use Rattle.archive_check.specs.Pooled.{Entries}
use Rattle.archive_check.specs.Readable.{target_from}
use Rattle.archive_check.specs.Reads.{length_at}
use Rattle.archive_check.specs.Value.{Value, Values, number, product, case, list, text_value, box, null, shared_value, hole, no_value, value}
use Rattle.archive_check.specs.Viewed.{Viewed}
use Rattle.archive_check.specs.WriterState.{WriterState}
use Rattle.archive_check.specs.Words.Formats.{FormatOf}
use Rattle.archive_check.specs.declared.format.error.Error.{Error}
use Rattle.archive_check.specs.declared.format.traits.Entries as Entries
use Rattle.archive_check.specs.declared.format.traits.Keys as Keys
use Rattle.archive_types.specs.Causes.{IsRefused}
use Rattle.archive_types.specs.Plans.{Serialized}
use Rattle.archive_types.specs.Writing.{to_pointee}
use Rattle.archive_types.specs.declared.traits.Archive as Archive
use Rattle.archive_types.specs.declared.view.RawView.{RawView}
use Rattle.archive_write.specs.Written.{GoesOn}
use Rattle.archive_core.specs.declared.recursive.chain.write.WrittenHead.{WrittenHead}
use Rattle.archive_core.specs.declared.recursive.chain.write.WrittenHead.TheVariants as Written
use Rattle.archive_core.specs.declared.recursive.chain.read.ReadHead.{ReadHead}
use Rattle.archive_core.specs.declared.recursive.chain.read.ReadHead.TheVariants as Back

-- What a value's box holds is borrowed.
abbrev pub IsRestOf : {T : Type 0} → Option T → Option (Bor T) → Type 0
IsRestOf rest None = rest ≡ None
IsRestOf rest (Some x) = rest ≡ Some x.now

-- What is in full lists and in one more, in order.
abbrev pub in_lists : {X A : Type 0} → List (Vec X A) → List X → List X
in_lists [] xs = xs
in_lists (full ∷ more) xs = full.items ++ in_lists more xs

-- How many boxes, products and choices there are in a value, one in another or side by side.
abbrev mutual
  pub weight : Value → ℕ
  weight (box v) = suc (weight v)
  weight (product vs) = suc (weights vs)
  weight (case tag vs) = suc (weights vs)
  weight (list vs) = suc (weights vs)
  weight (number z) = 0
  weight (text_value bytes) = 0
  weight null = 0
  weight (shared_value name) = 0
  weight (hole p) = 0

  pub weights : Values → ℕ
  weights no_value = 0
  weights (value v vs) = weight v + weights vs

-- From `old` to `mid` what a value owns was written but for what its box holds, a value with the keys `ks` and the meaning `m`: once that is boxed at t, the
-- whole value is written, and what hinders the box hinders the whole.
pub record IsWrittenUpTo (D : Definitions) (X : Shape) (keys : List Naming) (v : Value) (flat : ℕ → Value) (belongs : ℕ → Type 0) (ks : List Naming) (m : Value) (old mid : WriterState) : Type 0 where
  pub written : (t : ℕ) (new : WriterState) → GoesOn mid new → Serialized D (boxed (one X)) ks (box m) (box (hole (to_pointee t (one X) 0))) mid new → Serialized D X keys v (flat t) old new
  pub same_value : (t : ℕ) → belongs t
  pub unwritten : (new : WriterState) (e : Error) → GoesOn mid new → IsRefused D (boxed (one X)) ks (box m) mid new e → IsRefused D X keys v old new e
  pub lighter : weight m < weight v

-- What comes of a value's head: all of it is written, or all but its box.
abbrev pub HeadSerialized : {T A R M C S K : Type 0} → Archive.Ghosts T A R C M → FormatOf M → (T → Option T) → (K → ℕ → R) → T → Keys.Ghosts S → Both (MutBor S) (MutBor S) → WrittenHead R K → Type 0
HeadSerialized a f rest closed v k w (Written.Whole r) = Serialized f.definitions f.shape (a.keys v) (a.meaning v) (a.flat v r) (k.state w.entry.now) (k.state w.exit.now) × a.belongs v r
HeadSerialized {T = T} a f rest closed v k w (Written.Open kept) =
    (x : T) × (rest v ≡ Some x) × IsWrittenUpTo f.definitions f.shape (a.keys v) (a.meaning v) (λ t. a.flat v (closed kept t)) (λ t. a.belongs v (closed kept t)) (a.keys x) (a.meaning x) (k.state w.entry.now) (k.state w.exit.now)

-- From `old` to `mid` what stands before the box at `at` was read back of the P at q: once what the box leads to is read back, the whole is, and what refuses
-- that refuses the whole.
pub record IsFront (keeps : Bool) (D : Definitions) (P : Pointee) (L : Layout) (bytes : List ℕ) (q n : ℕ) (old mid : Entries) (at : ℕ) (around : Value → Value) (keys_around : List Naming → List Naming) : Type 0 where
  pub viewed : Viewed D bytes at (one (boxed P)) 0
  pub inside : at < q + L.size
  pub done : (new : Entries) (m : Value) (ks : List Naming) → ReadsBack keeps D bytes (target_from bytes at at) P (length_at bytes at P) mid new m ks → ReadsBack keeps D bytes q P n old new (around m) (keys_around ks)
  pub broken : (e : Error) → RefusesReading D bytes (target_from bytes at at) P (length_at bytes at P) mid e → RefusesReading D bytes q P n old e

-- What comes of a part's head: all of it is read back, or what stands before its box.
abbrev pub HeadIsRead : {M T A R C N D E F : Type 0} → FormatOf M → Both RawView E → Entries.Ghosts D → Both (MutBor D) (MutBor D) → Archive.Ghosts T A R C N → (F → Value → Value) → (F → List Naming → List Naming) → ReadHead T F → Type 0
HeadIsRead f p d b a around keys_around (Back.Whole t) =
    ReadsBack d.keeps f.definitions p.entry.bytes.now p.entry.pos f.pointee p.entry.len (d.entry_of b.entry.now) (d.entry_of b.exit.now) (a.meaning t) (a.keys t)
HeadIsRead f p d b a around keys_around (Back.Open front at) =
    IsFront d.keeps f.definitions f.pointee f.layout p.entry.bytes.now p.entry.pos p.entry.len (d.entry_of b.entry.now) (d.entry_of b.exit.now) at (around front) (keys_around front)
