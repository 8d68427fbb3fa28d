-- Sizes, and a vector of bytes: how many regions a check enters, and how deep they nest.
use Rattle.std.proofs.Common.{◌≡◌, ℕ, List, [], ◌∷◌, pos, Some, refl, arith, lit≤}
use Rattle.std.specs.FinMap.{empty}
use Rattle.archive_check.specs.Shape.{parts, boxed, vec, one, no_part, part}
use Rattle.archive_check.specs.Layout.{Layouts, size_of}
use Rattle.archive_check.specs.Reads.{bytes_at, u32_at, i32_at}
use Rattle.archive_check.specs.Depth.{AcceptedWithin}
use Rattle.archive_check.specs.Walk.{RootWalk, walk_one, walk_leaf, walk_vec, follow_unique, enter, walk_run, walk_element, walk_none}
use Rattle.archive_check.proofs.Checks.Subtrees.{enters}
use Rattle.archive_check.specs.Trail.{RootTrips, outside, too_deep, trips_within, trips_one, trips_boxed, trips_vec, trips_unique, trips_range, trips_depth}
use Rattle.archive_check.proofs.Checks.AcceptedWalks.{walked}
use Rattle.archive_check.proofs.Examples.Terms.{u8, u32, option, no_names, Refused, refused}

-- an option of a number takes eight bytes, and numbers between smaller ones are aligned
abbrev pub OptionSize : Type 0
OptionSize = (names : Layouts) → size_of names (option u32) ≡ 8

abbrev pub RecordSize : Type 0
RecordSize = (names : Layouts) → size_of names (parts (part u8 (part u32 (part u8 no_part)))) ≡ 12

-- the bytes 1, 2, 3, and at 4 their vector
abbrev pub three : List ℕ
three = 0x01 ∷ 0x02 ∷ 0x03 ∷ 0x00 ∷ 0xfc ∷ 0xff ∷ 0xff ∷ 0xff ∷ 0x03 ∷ 0x00 ∷ 0x00 ∷ 0x00 ∷ []

-- A check walks it under a limit of three levels and enters two regions; they nest two deep.
abbrev pub ThreeWalk : Type 0
ThreeWalk = RootWalk no_names three (Some 3) 4 (vec u8)

abbrev pub TwoEntered : ThreeWalk → Type 0
TwoEntered w = enters w.walk ≡ 2

abbrev pub DeepEnough : Type 0
DeepEnough = AcceptedWithin no_names three (Some 3) 4 (vec u8)

-- Of two levels the last lets none be entered.
abbrev pub TooDeep : Type 0
TooDeep = RootTrips no_names three (Some 2) 4 (vec u8) too_deep

-- a box that leads behind the end
abbrev pub past : List ℕ
past = 0x04 ∷ 0x00 ∷ 0x00 ∷ 0x00 ∷ []

abbrev pub PastTheEnd : Type 0
PastTheEnd = Refused no_names past 0 (boxed (one u8)) (outside (pos 4) 1 0 0)

pub option_size : OptionSize
option_size names = refl

pub record_size : RecordSize
record_size names = refl

pub three_walk : ThreeWalk
unfolding bytes_at u32_at i32_at
three_walk = record {
  later = 12;
  last = empty;
  walk = enter refl (lit≤ tt) (lit≤ tt) refl (lit≤ tt) (walk_one (walk_vec (follow_unique {t = 0} refl (enter refl (lit≤ tt) (lit≤ tt) refl (lit≤ tt)
      (walk_run (walk_element (walk_leaf (record { size = refl; number = tt }))
      (walk_element (walk_leaf (record { size = refl; number = tt }))
      (walk_element (walk_leaf (record { size = refl; number = tt })) walk_none))))))));
}

pub two_entered : TwoEntered three_walk
unfolding three_walk
two_entered = refl

pub deep_enough : DeepEnough
deep_enough = walked no_names three (Some 3) 4 (vec u8) three_walk

pub too_deep_refused : TooDeep
unfolding bytes_at u32_at i32_at
too_deep_refused = trips_within refl (lit≤ tt) (lit≤ tt) refl (lit≤ tt) (trips_one (trips_vec (trips_unique refl (trips_depth {t = 0} refl (lit≤ tt) (lit≤ tt) refl (λ h. omega arith)))))

pub past_the_end : PastTheEnd
unfolding bytes_at u32_at i32_at
past_the_end = refused (lit≤ tt) (trips_within refl (lit≤ tt) (lit≤ tt) refl tt (trips_one (trips_boxed (trips_unique refl (trips_range (lit≤ tt) (λ t e above below. omega arith))))))
