-- What a step of a type's own check comes to, in a context's own words. `Both` is a parameter as a clause names it: what it was as the call began, and what
-- it is at the return.
use denote.Triple.Both.{Both}
use denote.Ref.{MutBor}
use Rattle.std.specs.Borrow.{Bor}
use Rattle.std.specs.Prelude.{ℕ, ℤ, List, Option, OnSome, IfSome, IfNone, Bool, IsTrue}
use Rattle.archive_check.specs.declared.context.Context as Context
use Rattle.archive_check.specs.declared.format.error.Error.{Error}
use Rattle.archive_check.specs.Definitions.{Definitions}
use Rattle.archive_check.specs.Words.Formats.{FormatOf}
use Rattle.archive_check.specs.Shape.{Shape, Variants, Name, one, run, text, choice}
use Rattle.archive_check.specs.SelfCheck.Ways.{Way, Goes, Halts, VariantGoes, VariantHalts, shape_way, enter_way, owned}

-- The region of one X that a pointer to z leads to; that of n; that of a text of n bytes; a choice at p.
abbrev pub one_at : List ℕ → ℤ → Shape → Way
one_at bytes z X = enter_way bytes (owned z (one X) 0)

abbrev pub run_at : List ℕ → ℤ → ℕ → Shape → Way
run_at bytes z n X = enter_way bytes (owned z (run X) n)

abbrev pub text_at : List ℕ → ℤ → ℕ → Way
text_at bytes z n = enter_way bytes (owned z text n)

abbrev pub choice_at : List ℕ → ℕ → Both (Bor Name) (Bor Name) → Variants → Way
choice_at bytes p name variants = shape_way bytes p (choice name.entry.now variants)

module _ {C R : Type 0} (k : Context.Ghosts C) (c : Both (MutBor C) (MutBor C)) where
  -- The way was gone; it was not, and the refusal says the first fault on it.
  abbrev pub Went : Definitions → Way → Option R → Type 0
  Went D W result = OnSome result (Goes D W (k.state c.entry.now) (k.state c.exit.now))

  abbrev pub Stopped : Definitions → Way → Option R → Both (MutBor Error) (MutBor Error) → Type 0
  Stopped D W result refusal = IfNone result (Halts D W (k.state c.entry.now) refusal.exit.now)

  -- Where the check needs no schema: it was not.
  abbrev pub StoppedIf : Bool → Definitions → Way → Option R → Both (MutBor Error) (MutBor Error) → Type 0
  StoppedIf direct D W result refusal = IsTrue direct → Stopped D W result refusal

  -- Likewise of a type.
  abbrev pub WentOver : {M : Type 0} → FormatOf M → (Shape → Way) → Option R → Type 0
  WentOver t W result = OnSome result (Goes t.definitions (W t.shape) (k.state c.entry.now) (k.state c.exit.now))

  abbrev pub StoppedIn : {M : Type 0} → Bool → FormatOf M → (Shape → Way) → Option R → Both (MutBor Error) (MutBor Error) → Type 0
  StoppedIn direct t W result refusal = IsTrue direct → IfNone result (Halts t.definitions (W t.shape) (k.state c.entry.now) refusal.exit.now)

module _ {C : Type 0} (k : Context.Ghosts C) (c : Both (MutBor C) (MutBor C)) where
  -- The parts of the variant with this tag, where there is one.
  abbrev pub VariantWent : Definitions → List ℕ → ℕ → Variants → ℕ → Option Bool → Type 0
  VariantWent D bytes base variants tag result =
      IfSome result (λ known. IsTrue known → VariantGoes D bytes base variants tag (k.state c.entry.now) (k.state c.exit.now))

  -- They were not gone, and the refusal says the first fault.
  abbrev pub VariantStops : Definitions → List ℕ → ℕ → Variants → ℕ → Option Bool → Both (MutBor Error) (MutBor Error) → Type 0
  VariantStops D bytes base variants tag result refusal = IfNone result (VariantHalts D bytes base variants tag (k.state c.entry.now) refusal.exit.now)
