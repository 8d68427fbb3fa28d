-- A buffer is accepted, and no region too deep, exactly where its root is entered and walked.
use Rattle.std.proofs.Common.{ℕ, List, [], length, Option, refl, arith}
use Rattle.archive_check.specs.Shape.{Shape, one}
use Rattle.archive_check.specs.Value.{Value}
use Rattle.archive_check.specs.Reads.{SchemaTable, Reads}
use Rattle.archive_check.specs.Tour.{root_region, Contents, contents_one}
use Rattle.archive_check.specs.Depth.{nesting, AcceptedWithin}
use Rattle.archive_check.specs.Walk.{enter, walk_one, RootWalk}
use Rattle.archive_check.proofs.Checks.Depths.{allows_one, allows_under}
use Rattle.archive_check.proofs.Tours.JoinedTours.{rising_front, rising_aligned}
use Rattle.archive_check.proofs.Checks.Walks.{enter_finds}
use Rattle.archive_check.proofs.Checks.WalksBack.{found_walks}

-- one value is read there
pub reads_of : {s : SchemaTable} {bytes : List ℕ} {t n : ℕ} {X : Shape} {v : Value} → Contents s bytes t (one X) n v → Reads s bytes t X v
reads_of (contents_one r) = r

module _ (s : SchemaTable) (bytes : List ℕ) (limit : Option ℕ) (root : ℕ) (X : Shape) where
  pub walked : RootWalk s bytes limit root X → AcceptedWithin s bytes limit root X
  walked w =
      let r = enter_finds s bytes w.walk (omega arith) (omega arith) in (
        record {
          value = r.found;
          regions = r.regions;
          seen = w.last;
          flat = record { fits = r.leads.fits; reads = reads_of r.leads.contents; holes = refl };
          tour = r.tour;
          rising = r.rising;
        },
        r.nests,
      )

  pub walks : AcceptedWithin s bytes limit root X → RootWalk s bytes limit root X
  walks (a, room) =
      let w = found_walks s bytes a.flat.reads (record { regions = a.regions; tour = a.tour; rising = rising_front 0 a.regions (root_region s root X) [] (length bytes) a.rising; ends = refl; nests = allows_under limit (nesting a.tour) room }) in
      record {
        later = _;
        last = a.seen;
        walk = enter refl (omega arith) a.flat.fits (rising_aligned 0 a.regions (root_region s root X) [] (length bytes) a.rising) (allows_one limit (nesting a.tour) room) (walk_one w);
      }
