-- Reading back: what shared values hold, and when an open position is met.
use Rattle.std.proofs.Common.{◌≡◌, pos, List, [], ◌∷◌, None, arith, lit≤, refl, sym, ap, ◌∙◌, inr}
use Rattle.archive_check.specs.Shape.{one, shared, named}
use Rattle.archive_check.specs.Value.{Value, number, shared_value}
use Rattle.archive_check.specs.Reads.{bytes_at, u32_at, i32_at, reads_choice, reads_shared, reads_named, reads_part, reads_no_part}
use Rattle.archive_check.specs.Tour.{Entry, contents_one}
use Rattle.archive_check.specs.Denotes.{Naming}
use Rattle.archive_check.specs.Definitions.{no_definition, Knows}
use Rattle.archive_check.specs.Pooled.{Entries}
use Rattle.archive_check.specs.Entries.{MeetsOpen, meets_open, meets_in_shared}
use Rattle.archive_check.specs.Archives.{IsValueOf}
use Rattle.archive_check.proofs.Elements.{contains_first}
use Rattle.archive_check.proofs.Tours.Seen.{same_some, inserted_has}
use Rattle.archive_check.proofs.Examples.Terms.{u32, pair, both, rc, no_names, laid_out}
use Rattle.archive_check.proofs.Examples.SharedValues.{known_as, ten, one_ten, ring, all_values, cycles, sharing_itself}

-- two shared numbers are 10, and not read back as 99
abbrev pub ninety_nine : List Naming
ninety_nine = (0, (known_as rc (one u32) 0, number (pos 99))) ∷ []

abbrev pub NotNinetyNine : Type 0
NotNinetyNine = IsValueOf no_definition ten 4 (pair (shared rc (one u32)) (shared rc (one u32))) (both (shared_value 0) (shared_value 0)) ninety_nine → ⊥

knows_nothing : Knows no_names no_definition
knows_nothing = record { has = tt; finite = λ name X c. absurd (omega (arith, c.1)); laid_out = laid_out }

pub not_ninety_nine : NotNinetyNine
not_ninety_nine h =
    let k = h.shared no_names _ knows_nothing one_ten (0, (known_as rc (one u32) 0, number (pos 99))) (contains_first [] (0, (known_as rc (one u32) 0, number (pos 99)))) in
    let same : number (pos 10) ≡ number (pos 99) = ap (λ (p : Entry × Value). p.1) (same_some (sym (inserted_has _ 0 (known_as rc (one u32) 0, number (pos 10))) ∙ k.known)) in
    cc

abbrev nothing_pooled : Entries
nothing_pooled t = None

-- a value that shares itself is met while it is read
abbrev pub MeetsItself : Type 0
MeetsItself = MeetsOpen (sharing_itself cycles) ring nothing_pooled [] 8 (one (named all_values)) 0

pub meets_itself : MeetsItself
unfolding i32_at u32_at bytes_at
meets_itself = meets_in_shared {t = 0} (contents_one (reads_named refl (reads_choice refl (reads_part reads_shared reads_no_part)))) (0, lit≤ tt, refl) refl refl refl
    (meets_open {t = 0} (contents_one (reads_named refl (reads_choice refl (reads_part reads_shared reads_no_part)))) (0, lit≤ tt, refl) refl refl (inr (0, lit≤ tt, refl)))
