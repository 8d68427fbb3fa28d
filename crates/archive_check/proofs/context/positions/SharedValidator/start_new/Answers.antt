use Rattle.std.proofs.Common.{sym, refl, BuildHasherDefault, FoldHasher}
use Rattle.std.specs.Int.{w128}
use Rattle.std.specs.HashMap.{get}
use Rattle.std.specs.Ordering.{int_eq}
use Rattle.std.proofs.Math.Facts.{to_z-of_z}
use Rattle.archive_check.proofs.context.SharedPositions.{started_new, AreKnown-grown, AreKnown-inserted, unchanged_kept, positions_in-grown, on_err}
use Rattle.archive_check.proofs.context.RecalledPositions.{recalled_inserted}
use Rattle.archive_check.proofs.context.positions.SharedValidator.start_new.Goals as goal

pub invariant_of-self : goal.invariant_of-self
invariant_of-self g c = record { known = AreKnown-grown _ _ _ c.args.self.now.known c.type_index.ensures.kept; distinct = c.type_index.ensures.distinct c.args.self.now.distinct; recalls = c.args.self.now.recalls }

pub returns-in_err-shared_type-clause-unchanged : goal.returns-in_err-shared_type-clause-unchanged
returns-in_err-shared_type-clause-unchanged g c = on_err _ (positions_in-grown _ _ _ c.type_index.ensures.kept c.args.self.now.known)

pub returns-in_err-make_room-clause-unchanged : goal.returns-in_err-make_room-clause-unchanged
returns-in_err-make_room-clause-unchanged g c = on_err _ (positions_in-grown _ _ _ c.in_ok-shared_type.ensures.kept c.args.self.now.known)

pub invariant_of-self-2 : goal.invariant_of-self-2
invariant_of-self-2 g c =
    record {
      known = AreKnown-inserted {S = BuildHasherDefault FoldHasher} _ c.args.self.now.positions c.insert.new.self _ _ _ _ _ (AreKnown-grown _ _ _ c.args.self.now.known c.in_ok-shared_type.ensures.kept) c.in_ok-shared_type.ensures.found c.insert.ensures.updates c.insert.ensures.err;
      recalls = recalled_inserted {S = BuildHasherDefault FoldHasher} c.make_room.new.self.slots c.args.self.now.positions c.insert.new.self _ _ _ _ (to_z-of_z {w = w128} {z = c.args.position} c.ranges.position) c.requires.new c.insert.ensures.updates c.insert.ensures.err
          (c.make_room.ensures (get int_eq c.args.self.now.positions) c.args.self.now.recalls);
      distinct = c.in_ok-shared_type.ensures.distinct c.args.self.now.distinct;
    }

pub returns-in_err-insert-clause-unchanged : goal.returns-in_err-insert-clause-unchanged
returns-in_err-insert-clause-unchanged g c = on_err _ (unchanged_kept {S = BuildHasherDefault FoldHasher} _ _ c.args.self.now.positions c.insert.new.self c.args.self.now.known c.in_ok-shared_type.ensures.kept c.in_err-insert.ensures.err)

pub returns-clause-started : goal.returns-clause-started
returns-clause-started g c =
    started_new _ _ _ _ c.args.position c.args.position _ _ _ _ c.args.self.now.known c.in_ok-shared_type.ensures.kept c.in_ok-shared_type.ensures.found
    refl (to_z-of_z {w = w128} {z = c.args.position} c.ranges.position) (sym c.requires.new) refl c.in_ok-insert.ensures.updates.0

pub invariant_of-self-in-Break-branch-2 : goal.invariant_of-self-in-Break-branch-2
invariant_of-self-in-Break-branch-2 g c = record {
  known = AreKnown-grown _ _ _ c.args.self.now.known c.type_index.ensures.kept;
  distinct = c.type_index.ensures.distinct c.args.self.now.distinct;
  recalls = c.make_room.ensures (get int_eq c.args.self.now.positions) c.args.self.now.recalls;
}
