-- Shared values: one at a position, however many pointers lead there.
use Rattle.std.proofs.Common.{◌≡◌, ℕ, List, [], ◌∷◌, pos, refl, arith, lit≤, codes, Some, None, true, Contains, inl, inr}
use Rattle.std.specs.Ordering.{nat_cmp}
use Rattle.std.specs.Cmp.{nat_cmp_total}
use Rattle.std.specs.FinMap.{empty, insert, get, get-insert, get-empty}
use Rattle.archive_check.specs.Shape.{Name, Flavor, choice, shared, weak, named, Pointee, one, run, no_part, part, no_variant, variant}
use Rattle.archive_check.specs.Value.{number, case, list, null, shared_value, no_value, value}
use Rattle.archive_check.specs.Reads.{SchemaTable, LaidOut, bytes_at, u32_at, i32_at, kind_value, reads_leaf, reads_parts, reads_choice, reads_shared, reads_null, reads_named, reads_no_part, reads_part, reads_none, reads_element}
use Rattle.archive_check.specs.Keys.{in_any_order}
use Rattle.archive_check.specs.Tour.{Entry, contents_one, contents_run, tour_end, tour_new, tour_again}
use Rattle.archive_check.specs.Walk.{walk_leaf, walk_shared, follow_new, enter, walk_one, walk_run}
use Rattle.archive_check.specs.Leaves.{edit}
use Rattle.archive_check.specs.Tightness.{TightFrom}
use Rattle.archive_check.specs.Trail.{cyclic, other_type, other_length, trips_within, trips_one, trips_parts, trips_later, trips_first, trips_shared, trips_type, trips_length, trips_cycle, trips_new, trips_named, trips_choice}
use Rattle.archive_check.specs.Denotes.{Denotes, fills_number, fills_product, fills_case, fills_list, fills_null, fills_shared, fills_no_value, fills_value}
use Rattle.archive_check.proofs.Meanings.MeaningExists.{knows_insert}
use Rattle.archive_check.proofs.Checks.PlainRuns.{plain_run}
use Rattle.archive_check.proofs.Examples.Terms.{u8, u32, i32, nothing, pair, both, numbers, rc, no_names, Refused, refused, shares_nothing, laid_out, one_definition}

-- how a pointer of the flavor knows a shared pointee
abbrev pub known_as : Flavor → Pointee → ℕ → Entry
known_as flavor P n = record { flavor = flavor; pointee = P; length = n }

-- a number, and at 4 two pointers to it
abbrev pub ten : List ℕ
ten = 0x0a ∷ 0x00 ∷ 0x00 ∷ 0x00 ∷ 0xfc ∷ 0xff ∷ 0xff ∷ 0xff ∷ 0xf8 ∷ 0xff ∷ 0xff ∷ 0xff ∷ []

-- they say one shared value, whose name is its position
abbrev pub OneTen : Type 0
OneTen = Denotes no_names ten 4 (pair (shared rc (one u32)) (shared rc (one u32)))
    (record { value = both (shared_value 0) (shared_value 0); shared = insert empty 0 (known_as rc (one u32) 0, number (pos 10)) })

-- 42 in place of the 10, which both pointers then say
abbrev pub forty_two : List ℕ
forty_two = 0x2a ∷ 0x00 ∷ 0x00 ∷ 0x00 ∷ 0xfc ∷ 0xff ∷ 0xff ∷ 0xff ∷ 0xf8 ∷ 0xff ∷ 0xff ∷ 0xff ∷ []

abbrev pub Edited : Type 0
Edited = edit ten 0 (0x2a ∷ 0x00 ∷ 0x00 ∷ 0x00 ∷ []) ≡ forty_two

abbrev pub OneFortyTwo : Type 0
OneFortyTwo = Denotes no_names forty_two 4 (pair (shared rc (one u32)) (shared rc (one u32)))
    (record { value = both (shared_value 0) (shared_value 0); shared = insert empty 0 (known_as rc (one u32) 0, number (pos 42)) })

-- a shared value is of one type
abbrev pub TwoTypes : Type 0
TwoTypes = Refused no_names ten 4 (pair (shared rc (one u32)) (shared rc (one i32))) other_type

-- a unit is shared like a number
abbrev pub unit_twice : List ℕ
unit_twice = 0x00 ∷ 0x00 ∷ 0x00 ∷ 0x00 ∷ 0xfc ∷ 0xff ∷ 0xff ∷ 0xff ∷ 0xf8 ∷ 0xff ∷ 0xff ∷ 0xff ∷ []

abbrev pub OneUnit : Type 0
OneUnit = Denotes no_names unit_twice 4 (pair (shared rc (one nothing)) (shared rc (one nothing)))
    (record { value = both (shared_value 0) (shared_value 0); shared = insert empty 0 (known_as rc (one nothing) 0, number (pos 0)) })

-- no numbers at 0 and one number at 4 are two shared values
abbrev pub none_and_one : List ℕ
none_and_one = 0x00 ∷ 0x00 ∷ 0x00 ∷ 0x00 ∷ 0x64 ∷ 0x00 ∷ 0x00 ∷ 0x00 ∷ 0xf8 ∷ 0xff ∷ 0xff ∷ 0xff ∷ 0x00 ∷ 0x00 ∷ 0x00 ∷ 0x00 ∷ 0xf4 ∷ 0xff ∷ 0xff ∷ 0xff ∷ 0x01 ∷ 0x00 ∷ 0x00 ∷ 0x00 ∷ []

abbrev pub NoneAndOne : Type 0
NoneAndOne = Denotes no_names none_and_one 8 (pair (shared rc (run u32)) (shared rc (run u32))) (record {
  value = both (shared_value 0) (shared_value 4);
  shared = insert (insert empty 0 (known_as rc (run u32) 0, list no_value)) 4 (known_as rc (run u32) 1, list (numbers (100 ∷ [])));
})

-- four bytes and two of them: one position, two lengths
abbrev pub four_and_two : List ℕ
four_and_two = 0x01 ∷ 0x02 ∷ 0x03 ∷ 0x04 ∷ 0xfc ∷ 0xff ∷ 0xff ∷ 0xff ∷ 0x04 ∷ 0x00 ∷ 0x00 ∷ 0x00 ∷ 0xf4 ∷ 0xff ∷ 0xff ∷ 0xff ∷ 0x02 ∷ 0x00 ∷ 0x00 ∷ 0x00 ∷ []

abbrev pub TwoLengths : Type 0
TwoLengths = Refused no_names four_and_two 4 (pair (shared rc (run u8)) (shared rc (run u8))) other_length

-- a shared number, and a weak pointer to nothing
abbrev pub ten_and_null : List ℕ
ten_and_null = 0x0a ∷ 0x00 ∷ 0x00 ∷ 0x00 ∷ 0xfc ∷ 0xff ∷ 0xff ∷ 0xff ∷ 0x01 ∷ 0x00 ∷ 0x00 ∷ 0x00 ∷ []

abbrev pub WeakNull : Type 0
WeakNull = Denotes no_names ten_and_null 4 (pair (shared rc (one u32)) (weak rc (one u32)))
    (record { value = both (shared_value 0) null; shared = insert empty 0 (known_as rc (one u32) 0, number (pos 10)) })

-- a value that shares itself, under a flavor
abbrev pub all_values : Name
all_values = codes "ArchivedAllValues"

abbrev pub sharing_itself : Flavor → SchemaTable
sharing_itself flavor = record {
  table = (all_values, choice all_values (variant (part (shared flavor (one (named all_values))) no_part) no_variant)) ∷ [];
  layouts = λ name. record { size = 8; align = 4 };
}

abbrev pub ItsLayout : Type 0
ItsLayout = (flavor : Flavor) → LaidOut (sharing_itself flavor)

abbrev pub ring : List ℕ
ring = 0x00 ∷ 0x00 ∷ 0x00 ∷ 0xff ∷ 0xfc ∷ 0xff ∷ 0xff ∷ 0xff ∷ 0x00 ∷ 0x00 ∷ 0xf6 ∷ 0xff ∷ 0xf4 ∷ 0xff ∷ 0xff ∷ 0xff ∷ []

-- a flavor that forbids cycles
abbrev pub Cyclic : Type 0
Cyclic = Refused (sharing_itself rc) ring 8 (named all_values) cyclic

-- and one that allows them
abbrev pub cycles : Flavor
cycles = record { name = codes "Cycles"; cycles = true }

abbrev pub MayBeCyclic : Type 0
MayBeCyclic = Denotes (sharing_itself cycles) ring 8 (named all_values) (record {
  value = case 0 (value (shared_value 0) no_value);
  shared = insert empty 0 (known_as cycles (one (named all_values)) 0, case 0 (value (shared_value 0) no_value));
})

-- what is met first is known from then on, and nothing lies within nothing
met : (e : Entry) → get {R = nat_cmp} (insert empty 0 e) 0 ≡ Some e
met e = rw (get-insert nat_cmp_total empty 0 e 0) refl

unmet : get {X = Entry} {R = nat_cmp} empty 0 ≡ None
unmet = get-empty nat_cmp 0

not_within : (t : ℕ) → Contains [] t → ⊥
not_within t (k, below, same) = absurd (omega arith)

pub its_layout : ItsLayout
its_layout flavor = record { solves = λ name X d. one_definition all_values name _ X _ d refl; aligned = λ name. lit≤ tt }

pub one_ten : OneTen
unfolding bytes_at u32_at i32_at kind_value
one_ten = record {
  accepted = record {
    value = _;
    regions = _;
    seen = _;
    flat = record { fits = lit≤ tt; reads = reads_parts (reads_part reads_shared (reads_part reads_shared reads_no_part)); holes = refl };
    tour = tour_new {t = 0} refl unmet (record { target = refl; fits = lit≤ tt; ordered = in_any_order; contents = contents_one (reads_leaf (record { size = refl; number = tt })) }) tour_end
        (tour_again refl refl (met _) (inl (not_within 0)) tour_end);
    rising = (lit≤ tt, refl, (lit≤ tt, refl, lit≤ tt));
  };
  root_value = fills_product (fills_value (fills_shared refl refl) (fills_value (fills_shared refl refl) fills_no_value));
  shared = knows_insert no_names ten empty empty 0 (known_as rc (one u32) 0) (number (pos 10)) (number (pos 10)) (contents_one (reads_leaf (record { size = refl; number = tt }))) fills_number (shares_nothing no_names ten);
}

pub edited : Edited
edited = refl

pub one_forty_two : OneFortyTwo
unfolding bytes_at u32_at i32_at kind_value
one_forty_two = record {
  accepted = record {
    value = _;
    regions = _;
    seen = _;
    flat = record { fits = lit≤ tt; reads = reads_parts (reads_part reads_shared (reads_part reads_shared reads_no_part)); holes = refl };
    tour = tour_new {t = 0} refl unmet (record { target = refl; fits = lit≤ tt; ordered = in_any_order; contents = contents_one (reads_leaf (record { size = refl; number = tt })) }) tour_end
        (tour_again refl refl (met _) (inl (not_within 0)) tour_end);
    rising = (lit≤ tt, refl, (lit≤ tt, refl, lit≤ tt));
  };
  root_value = fills_product (fills_value (fills_shared refl refl) (fills_value (fills_shared refl refl) fills_no_value));
  shared = knows_insert no_names forty_two empty empty 0 (known_as rc (one u32) 0) (number (pos 42)) (number (pos 42)) (contents_one (reads_leaf (record { size = refl; number = tt }))) fills_number (shares_nothing no_names forty_two);
}

pub two_types : TwoTypes
unfolding bytes_at u32_at i32_at
two_types = refused (lit≤ tt) (trips_within refl (lit≤ tt) (lit≤ tt) refl tt (trips_one (trips_parts (trips_later
    (walk_shared (follow_new {t = 0} refl unmet (enter refl (lit≤ tt) (lit≤ tt) refl tt (walk_one (walk_leaf (record { size = refl; number = tt }))))))
    (trips_first (trips_shared (trips_type {t = 0} refl refl (met _) (λ h. let same = h.1 in cc))))))))

pub one_unit : OneUnit
unfolding bytes_at u32_at i32_at kind_value
one_unit = record {
  accepted = record {
    value = _;
    regions = _;
    seen = _;
    flat = record { fits = lit≤ tt; reads = reads_parts (reads_part reads_shared (reads_part reads_shared reads_no_part)); holes = refl };
    tour = tour_new {t = 0} refl unmet (record { target = refl; fits = lit≤ tt; ordered = in_any_order; contents = contents_one (reads_leaf (record { size = refl; number = tt })) }) tour_end
        (tour_again refl refl (met _) (inl (not_within 0)) tour_end);
    rising = (lit≤ tt, refl, (lit≤ tt, refl, lit≤ tt));
  };
  root_value = fills_product (fills_value (fills_shared refl refl) (fills_value (fills_shared refl refl) fills_no_value));
  shared = knows_insert no_names unit_twice empty empty 0 (known_as rc (one nothing) 0) (number (pos 0)) (number (pos 0)) (contents_one (reads_leaf (record { size = refl; number = tt }))) fills_number (shares_nothing no_names unit_twice);
}

not_met : (e : Entry) → get {R = nat_cmp} (insert empty 0 e) 4 ≡ None
not_met e = rw (get-insert nat_cmp_total empty 0 e 4) (get-empty nat_cmp 4)

pub none_and_one_accepted : NoneAndOne
unfolding bytes_at u32_at i32_at kind_value
none_and_one_accepted = record {
  accepted = record {
    value = _;
    regions = _;
    seen = _;
    flat = record { fits = lit≤ tt; reads = reads_parts (reads_part reads_shared (reads_part reads_shared reads_no_part)); holes = refl };
    tour = tour_new {t = 0} refl unmet (record { target = refl; fits = lit≤ tt; ordered = in_any_order; contents = contents_run reads_none }) tour_end
        (tour_new {t = 4} refl (not_met _) (record { target = refl; fits = lit≤ tt; ordered = in_any_order; contents = contents_run (reads_element (reads_leaf (record { size = refl; number = tt })) reads_none) }) tour_end tour_end);
    rising = (lit≤ tt, refl, (lit≤ tt, refl, (lit≤ tt, refl, lit≤ tt)));
  };
  root_value = fills_product (fills_value (fills_shared refl refl) (fills_value (fills_shared refl refl) fills_no_value));
  shared = knows_insert no_names none_and_one (insert empty 0 (known_as rc (run u32) 0)) (insert empty 0 (known_as rc (run u32) 0, list no_value)) 4 (known_as rc (run u32) 1)
      (list (numbers (100 ∷ []))) (list (numbers (100 ∷ []))) (contents_run (reads_element (reads_leaf (record { size = refl; number = tt })) reads_none)) (fills_list (fills_value fills_number fills_no_value))
      (knows_insert no_names none_and_one empty empty 0 (known_as rc (run u32) 0) (list no_value) (list no_value) (contents_run reads_none) (fills_list fills_no_value) (shares_nothing no_names none_and_one));
}

pub two_lengths : TwoLengths
unfolding bytes_at u32_at i32_at
two_lengths = refused (lit≤ tt) (trips_within refl (lit≤ tt) (lit≤ tt) refl tt (trips_one (trips_parts (trips_later
    (walk_shared (follow_new {t = 0} refl unmet (enter refl (lit≤ tt) (lit≤ tt) refl tt (walk_run (plain_run no_names laid_out four_and_two 4 u8 0 refl (lit≤ tt))))))
    (trips_first (trips_shared (trips_length {t = 0} refl refl (met _) (refl, refl) (λ e. omega arith))))))))

pub weak_null : WeakNull
unfolding bytes_at u32_at i32_at kind_value
weak_null = record {
  accepted = record {
    value = _;
    regions = _;
    seen = _;
    flat = record { fits = lit≤ tt; reads = reads_parts (reads_part reads_shared (reads_part (reads_null refl) reads_no_part)); holes = refl };
    tour = tour_new {t = 0} refl unmet (record { target = refl; fits = lit≤ tt; ordered = in_any_order; contents = contents_one (reads_leaf (record { size = refl; number = tt })) }) tour_end tour_end;
    rising = (lit≤ tt, refl, (lit≤ tt, refl, lit≤ tt));
  };
  root_value = fills_product (fills_value (fills_shared refl refl) (fills_value fills_null fills_no_value));
  shared = knows_insert no_names ten_and_null empty empty 0 (known_as rc (one u32) 0) (number (pos 10)) (number (pos 10)) (contents_one (reads_leaf (record { size = refl; number = tt }))) fills_number (shares_nothing no_names ten_and_null);
}

within_one : Contains {X = ℕ} (0 ∷ []) 0
within_one = (0, lit≤ tt, refl)

pub cyclic_refused : Cyclic
unfolding bytes_at u32_at i32_at
cyclic_refused = refused (lit≤ tt) (trips_within refl (lit≤ tt) (lit≤ tt) refl tt (trips_one (trips_named refl (trips_choice refl (trips_first (trips_shared (trips_new {t = 0} refl refl unmet
    (trips_within {t = 0} refl (lit≤ tt) (lit≤ tt) refl tt (trips_one (trips_named refl (trips_choice refl (trips_first (trips_shared (trips_cycle {t = 0} refl refl (met _) within_one refl))))))))))))))

pub cyclic_accepted : MayBeCyclic
unfolding bytes_at u32_at i32_at
cyclic_accepted = record {
  accepted = record {
    value = _;
    regions = _;
    seen = _;
    flat = record { fits = lit≤ tt; reads = reads_named refl (reads_choice refl (reads_part reads_shared reads_no_part)); holes = refl };
    tour = tour_new {t = 0} refl unmet (record { target = refl; fits = lit≤ tt; ordered = in_any_order; contents = contents_one (reads_named refl (reads_choice refl (reads_part reads_shared reads_no_part))) })
        (tour_again refl refl (met _) (inr refl) tour_end) tour_end;
    rising = (lit≤ tt, refl, (lit≤ tt, refl, lit≤ tt));
  };
  root_value = fills_case (fills_value (fills_shared refl refl) fills_no_value);
  shared = knows_insert (sharing_itself cycles) ring empty empty 0 (known_as cycles (one (named all_values)) 0) _ _
      (contents_one (reads_named refl (reads_choice refl (reads_part reads_shared reads_no_part)))) (fills_case (fills_value (fills_shared refl refl) fills_no_value)) (shares_nothing (sharing_itself cycles) ring);
}

-- a byte stands behind a shared region that has none
pub unit_tight : TightFrom 0 one_unit.accepted
unfolding one_unit
unit_tight = (refl, (refl, refl))

pub none_and_one_tight : TightFrom 0 none_and_one_accepted.accepted
unfolding none_and_one_accepted
none_and_one_tight = (refl, (refl, (refl, refl)))
