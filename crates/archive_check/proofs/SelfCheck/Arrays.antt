-- The check of an array is that of its elements.
use Rattle.std.proofs.Common.{◌≡◌, ℕ, zero, suc, ◌*◌, ◌+◌, min, List, Option, arith, ⊎_elim}
use Rattle.std.proofs.lemmas.Bool.{cases_lt}
use Rattle.archive_check.specs.Shape.{Shape, array}
use Rattle.archive_check.specs.Reads.{SchemaTable}
use Rattle.archive_check.specs.Tour.{Seen}
use Rattle.archive_check.specs.Walk.{walk_array}
use Rattle.archive_check.specs.Trail.{trips_array}
use Rattle.archive_check.specs.Outcomes.{Outcome, done, refused}
use Rattle.archive_check.specs.SelfCheck.Ways.{shape_way, run_way}

pub array_way : (s : SchemaTable) (bytes : List ℕ) (pending : List ℕ) (depth : Option ℕ) (stop start : ℕ) (seen : Seen) (p n : ℕ) (X : Shape) (o : Outcome)
    → run_way bytes p n X s pending depth stop start seen o → shape_way bytes p (array n X) s pending depth stop start seen o
array_way s bytes pending depth stop start seen p n X (done l k) w = walk_array w
array_way s bytes pending depth stop start seen p n X (refused f) w = trips_array w

-- what so many of a size take is found from the size as far as it fits
pub times_bounded : (n z : ℕ) → min (n * min z 18446744073709551615) 18446744073709551615 ≡ min (n * z) 18446744073709551615
times_bounded zero z = omega arith
times_bounded (suc n) z = ⊎_elim
    (λ below. let e : min z 18446744073709551615 ≡ z = omega (arith, below) in rw e (λ i. min (suc n * z) 18446744073709551615))
    (λ above.
    let e : min z 18446744073709551615 ≡ 18446744073709551615 = omega (arith, above) in
    let one : suc n * 18446744073709551615 ≡ 18446744073709551615 + n * 18446744073709551615 = omega arith in
    let more : suc n * z ≡ z + n * z = omega arith in
    rw e (omega (arith, above, one, more)))
    (cases_lt z 18446744073709551615)
