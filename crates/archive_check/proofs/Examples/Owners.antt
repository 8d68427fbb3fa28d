-- Vectors, boxes and choices.
use Rattle.std.proofs.Common.{ℕ, List, [], ◌∷◌, take, pos, refl, arith, lit≤, codes, None, false}
use Rattle.std.specs.FinMap.{empty}
use Rattle.archive_check.specs.Shape.{Name, Shape, array, boxed, vec, choice, named, one, run, no_part, part, no_variant, variant}
use Rattle.archive_check.specs.Value.{Pointer, case, list, box, hole, no_value, value}
use Rattle.archive_check.specs.Reads.{SchemaTable, LaidOut, bytes_at, u32_at, i32_at, kind_value, pointer_at, Reads, reads_leaf, reads_choice, reads_boxed, reads_vec, reads_named, reads_no_part, reads_part, reads_none, reads_element}
use Rattle.archive_check.specs.Keys.{in_any_order}
use Rattle.archive_check.specs.Tour.{Region, region_at, root_region, Contents, contents_one, contents_run, Tour, tour_end, tour_unique, Rising, Accepted}
use Rattle.archive_check.specs.Walk.{walk_leaf, walk_boxed, walk_vec, follow_unique, enter, walk_one, walk_run, RootWalk}
use Rattle.archive_check.specs.Trail.{outside, no_such_variant, trips_within, trips_one, trips_array, trips_later_element, trips_element, trips_boxed, trips_unique, trips_range, trips_named, trips_choice, trips_tag, trips_first}
use Rattle.archive_check.specs.Denotes.{fills_number, fills_case, fills_list, fills_box, fills_unique, fills_no_value, fills_value}
use Rattle.archive_check.proofs.Checks.AcceptedWalks.{walked}
use Rattle.archive_check.proofs.Checks.PlainRuns.{empty_run, plain_run}
use Rattle.archive_check.proofs.Examples.Terms.{u8, u32, nothing, option, numbers, no_names, Says, Refused, refused, shares_nothing, laid_out, one_definition}

-- two numbers, and at 8 their vector
abbrev pub one_two : List ℕ
one_two = 0x01 ∷ 0x00 ∷ 0x00 ∷ 0x00 ∷ 0x02 ∷ 0x00 ∷ 0x00 ∷ 0x00 ∷ 0xf8 ∷ 0xff ∷ 0xff ∷ 0xff ∷ 0x02 ∷ 0x00 ∷ 0x00 ∷ 0x00 ∷ []

abbrev pub TwoNumbers : Type 0
TwoNumbers = Says no_names one_two 8 (vec u32) (list (numbers (1 ∷ 2 ∷ [])))

-- an empty vector leads to itself, and nothing lies there
abbrev pub zeros : List ℕ
zeros = 0x00 ∷ 0x00 ∷ 0x00 ∷ 0x00 ∷ 0x00 ∷ 0x00 ∷ 0x00 ∷ 0x00 ∷ []

abbrev pub NoNumbers : Type 0
NoNumbers = Says no_names zeros 0 (vec u32) (list no_value)

-- elements without bytes can be many
abbrev pub units : List ℕ
units = 0x00 ∷ 0x00 ∷ 0x00 ∷ 0x00 ∷ 0xff ∷ 0xff ∷ 0xff ∷ 0xff ∷ []

abbrev pub units_pointer : Pointer
units_pointer = record { target = pos 0; sharing = None; order = None; pointee = run nothing; length = 4294967295 }

abbrev pub ManyUnits : Type 0
ManyUnits = Accepted no_names units 0 (vec nothing) × Reads no_names units 0 (vec nothing) (hole units_pointer)

-- eleven bytes, a zero, and at 12 two boxes that both lead to the eleven
abbrev pub same_place : List ℕ
same_place = 0x48 ∷ 0x65 ∷ 0x6c ∷ 0x6c ∷ 0x6f ∷ 0x20 ∷ 0x77 ∷ 0x6f ∷ 0x72 ∷ 0x6c ∷ 0x64 ∷ 0x00 ∷ 0xf4 ∷ 0xff ∷ 0xff ∷ 0xff ∷ 0x0b ∷ 0x00 ∷ 0x00 ∷ 0x00 ∷ 0xec ∷ 0xff ∷ 0xff ∷ 0xff ∷ 0x0b ∷ 0x00 ∷ 0x00 ∷ 0x00 ∷ []

abbrev pub two_boxes : Shape
two_boxes = array 2 (boxed (run u8))

abbrev pub TwoBoxesAtOne : Type 0
TwoBoxesAtOne = Refused no_names same_place 12 two_boxes (outside (pos 0) 11 11 12)

-- each of the two is in order; it is their regions that don't rise
abbrev pub the_box : ℕ → Pointer
the_box p = pointer_at same_place p None (run u8)

abbrev pub the_bytes : Region
the_bytes = region_at no_names 0 (run u8) 11 false

abbrev pub VisitedTwice : Type 0
VisitedTwice = Tour no_names same_place [] empty (the_box 12 ∷ the_box 20 ∷ []) (the_bytes ∷ the_bytes ∷ []) empty

abbrev pub TwiceIsNotRising : Type 0
TwiceIsNotRising = Rising 0 (the_bytes ∷ the_bytes ∷ root_region no_names 12 two_boxes ∷ []) 28 → ⊥

-- two boxed numbers, of which the second one stands before the first
abbrev pub backwards : List ℕ
backwards = 0x01 ∷ 0x00 ∷ 0x00 ∷ 0x00 ∷ 0x02 ∷ 0x00 ∷ 0x00 ∷ 0x00 ∷ 0xfc ∷ 0xff ∷ 0xff ∷ 0xff ∷ 0xf4 ∷ 0xff ∷ 0xff ∷ 0xff ∷ []

abbrev pub SecondBeforeFirst : Type 0
SecondBeforeFirst = Refused no_names backwards 8 (array 2 (boxed (one u32))) (outside (pos 0) 4 8 8)

-- what stands behind the tag of a None isn't read
abbrev pub none_with_more : List ℕ
none_with_more = 0x00 ∷ 0xaa ∷ 0xbb ∷ 0xcc ∷ 0x01 ∷ 0x02 ∷ 0x03 ∷ 0x04 ∷ []

abbrev pub NoneWithMore : Type 0
NoneWithMore = Says no_names none_with_more 0 (option u32) (case 0 no_value)

-- an option has no third variant
abbrev pub two_first : List ℕ
two_first = 0x02 ∷ 0x00 ∷ 0x00 ∷ 0x00 ∷ 0x01 ∷ 0x02 ∷ 0x03 ∷ 0x04 ∷ []

abbrev pub NoThirdVariant : Type 0
NoThirdVariant = Refused no_names two_first 0 (option u32) (no_such_variant (codes "ArchivedOption") 2)

-- a chain: its end, or a box with the rest of it
abbrev pub node : Name
node = codes "ArchivedNode"

abbrev pub nodes : SchemaTable
nodes = record {
  table = (node, choice node (variant no_part (variant (part (boxed (one (named node))) no_part) no_variant))) ∷ [];
  layouts = λ name. record { size = 8; align = 4 };
}

abbrev pub NodesLayout : Type 0
NodesLayout = LaidOut nodes

abbrev pub one_node : List ℕ
one_node = 0x00 ∷ 0x00 ∷ 0x00 ∷ 0x00 ∷ 0x00 ∷ 0x00 ∷ 0x00 ∷ 0x00 ∷ 0x01 ∷ 0x00 ∷ 0x00 ∷ 0x00 ∷ 0xf4 ∷ 0xff ∷ 0xff ∷ 0xff ∷ []

abbrev pub OneNode : Type 0
OneNode = Says nodes one_node 8 (named node) (case 1 (value (box (case 0 no_value)) no_value))

-- a chain that leads back into itself
abbrev pub endless : List ℕ
endless = 0x01 ∷ 0x00 ∷ 0x00 ∷ 0x00 ∷ 0x04 ∷ 0x00 ∷ 0x00 ∷ 0x00 ∷ 0x01 ∷ 0x00 ∷ 0x00 ∷ 0x00 ∷ 0xf4 ∷ 0xff ∷ 0xff ∷ 0xff ∷ []

abbrev pub Endless : Type 0
Endless = Refused nodes endless 8 (named node) (outside (pos 8) 8 0 0)

pub two_numbers : TwoNumbers
unfolding bytes_at u32_at i32_at kind_value
two_numbers = record {
  accepted = record {
    value = _;
    regions = _;
    seen = empty;
    flat = record { fits = lit≤ tt; reads = reads_vec; holes = refl };
    tour = tour_unique {t = 0} refl (record { target = refl; fits = lit≤ tt; ordered = in_any_order; contents = contents_run (reads_element (reads_leaf (record { size = refl; number = tt })) (reads_element (reads_leaf (record { size = refl; number = tt })) reads_none)) }) tour_end tour_end;
    rising = (lit≤ tt, refl, (lit≤ tt, refl, lit≤ tt));
  };
  root_value = fills_unique {t = 0} refl (record { target = refl; fits = lit≤ tt; ordered = in_any_order; contents = contents_run (reads_element (reads_leaf (record { size = refl; number = tt })) (reads_element (reads_leaf (record { size = refl; number = tt })) reads_none)) })
      (fills_list (fills_value fills_number (fills_value fills_number fills_no_value)));
  shared = shares_nothing no_names one_two;
}

pub no_numbers : NoNumbers
unfolding bytes_at u32_at i32_at
no_numbers = record {
  accepted = record {
    value = _;
    regions = _;
    seen = empty;
    flat = record { fits = lit≤ tt; reads = reads_vec; holes = refl };
    tour = tour_unique {t = 0} refl (record { target = refl; fits = lit≤ tt; ordered = in_any_order; contents = contents_run reads_none }) tour_end tour_end;
    rising = (lit≤ tt, refl, (lit≤ tt, refl, lit≤ tt));
  };
  root_value = fills_unique {t = 0} refl (record { target = refl; fits = lit≤ tt; ordered = in_any_order; contents = contents_run reads_none }) (fills_list fills_no_value);
  shared = shares_nothing no_names zeros;
}

units_walk : RootWalk no_names units None 0 (vec nothing)
unfolding bytes_at u32_at i32_at
units_walk = record {
  later = 8;
  last = empty;
  walk = enter refl (lit≤ tt) (lit≤ tt) refl tt (walk_one (walk_vec (follow_unique {t = 0} refl (enter refl (lit≤ tt) (lit≤ tt) refl tt (walk_run
      (empty_run no_names laid_out units 4294967295 refl (walk_leaf (record { size = refl; number = tt }))))))));
}

pub many_units : ManyUnits
unfolding bytes_at u32_at i32_at
many_units = ((walked no_names units None 0 (vec nothing) units_walk).0, reads_vec)

pub two_boxes_at_one : TwoBoxesAtOne
unfolding bytes_at u32_at i32_at
two_boxes_at_one = refused (lit≤ tt) (trips_within refl (lit≤ tt) (lit≤ tt) refl tt (trips_one (trips_array (trips_later_element
    (walk_boxed (follow_unique {t = 0} refl (enter refl (lit≤ tt) (lit≤ tt) refl tt (walk_run (plain_run no_names laid_out same_place 11 u8 0 refl (lit≤ tt))))))
    (trips_element (trips_boxed (trips_unique refl (trips_range (lit≤ tt) (λ t e above below. omega arith)))))))))

eleven_bytes : Contents no_names same_place 0 (run u8) 11 (list (numbers (take 11 same_place)))
unfolding bytes_at kind_value
eleven_bytes = contents_run (reads_element (reads_leaf (record { size = refl; number = tt })) (reads_element (reads_leaf (record { size = refl; number = tt })) (reads_element (reads_leaf (record { size = refl; number = tt })) (reads_element (reads_leaf (record { size = refl; number = tt })) (reads_element (reads_leaf (record { size = refl; number = tt })) (reads_element (reads_leaf (record { size = refl; number = tt })) (reads_element (reads_leaf (record { size = refl; number = tt })) (reads_element (reads_leaf (record { size = refl; number = tt })) (reads_element (reads_leaf (record { size = refl; number = tt })) (reads_element (reads_leaf (record { size = refl; number = tt })) (reads_element (reads_leaf (record { size = refl; number = tt })) (reads_none))))))))))))

pub visited_twice : VisitedTwice
unfolding bytes_at u32_at i32_at
visited_twice = tour_unique {t = 0} refl (record { target = refl; fits = lit≤ tt; ordered = in_any_order; contents = eleven_bytes }) tour_end
    (tour_unique {t = 0} refl (record { target = refl; fits = lit≤ tt; ordered = in_any_order; contents = eleven_bytes }) tour_end tour_end)

pub twice_is_not_rising : TwiceIsNotRising
twice_is_not_rising h = omega arith

pub second_before_first : SecondBeforeFirst
unfolding bytes_at u32_at i32_at
second_before_first = refused (lit≤ tt) (trips_within refl (lit≤ tt) (lit≤ tt) refl tt (trips_one (trips_array (trips_later_element
    (walk_boxed (follow_unique {t = 4} refl (enter refl (lit≤ tt) (lit≤ tt) refl tt (walk_one (walk_leaf (record { size = refl; number = tt }))))))
    (trips_element (trips_boxed (trips_unique refl (trips_range (lit≤ tt) (λ t e above below. omega arith)))))))))

pub none_with_more_accepted : NoneWithMore
none_with_more_accepted = record {
  accepted = record {
    value = _;
    regions = [];
    seen = empty;
    flat = record { fits = lit≤ tt; reads = reads_choice refl reads_no_part; holes = refl };
    tour = tour_end;
    rising = (lit≤ tt, refl, lit≤ tt);
  };
  root_value = fills_case fills_no_value;
  shared = shares_nothing no_names none_with_more;
}

pub no_third_variant : NoThirdVariant
no_third_variant = refused (lit≤ tt) (trips_within refl (lit≤ tt) (lit≤ tt) refl tt (trips_one (trips_tag refl)))

pub nodes_layout : NodesLayout
nodes_layout = record { solves = λ name X d. one_definition node name _ X _ d refl; aligned = λ name. lit≤ tt }

pub one_node_accepted : OneNode
unfolding bytes_at u32_at i32_at
one_node_accepted = record {
  accepted = record {
    value = _;
    regions = _;
    seen = empty;
    flat = record { fits = lit≤ tt; reads = reads_named refl (reads_choice refl (reads_part reads_boxed reads_no_part)); holes = refl };
    tour = tour_unique {t = 0} refl (record { target = refl; fits = lit≤ tt; ordered = in_any_order; contents = contents_one (reads_named refl (reads_choice refl reads_no_part)) }) tour_end tour_end;
    rising = (lit≤ tt, refl, (lit≤ tt, refl, lit≤ tt));
  };
  root_value = fills_case (fills_value (fills_box (fills_unique {t = 0} refl (record { target = refl; fits = lit≤ tt; ordered = in_any_order; contents = contents_one (reads_named refl (reads_choice refl reads_no_part)) }) (fills_case fills_no_value))) fills_no_value);
  shared = shares_nothing nodes one_node;
}

pub endless_refused : Endless
unfolding bytes_at u32_at i32_at
endless_refused = refused (lit≤ tt) (trips_within refl (lit≤ tt) (lit≤ tt) refl tt (trips_one (trips_named refl (trips_choice refl (trips_first (trips_boxed (trips_unique refl
    (trips_within {t = 0} refl (lit≤ tt) (lit≤ tt) refl tt (trips_one (trips_named refl (trips_choice refl (trips_first (trips_boxed (trips_unique refl
    (trips_range (lit≤ tt) (λ t e above below. omega arith))))))))))))))))
