use Rattle.archive_schema.proofs.check.TurnInvariants.{node_is}
use Rattle.archive_schema.proofs.check.AtOnce.{pointer_shallow, test_known, test_stopped}
use Rattle.archive_schema.proofs.check.Checker.check_single.Goals as goal

pub check_pointer-requires-clause-kind : goal.check_pointer-requires-clause-kind
check_pointer-requires-clause-kind g c = node_is c.requires.fits c.index-self-node.is c.in-Pointer.is

pub check_pointer-requires-clause-shallow : goal.check_pointer-requires-clause-shallow
check_pointer-requires-clause-shallow g c = pointer_shallow c.requires.shallow (node_is c.requires.fits c.index-self-node.is c.in-Pointer.is)

pub check_text-requires-clause-kind : goal.check_text-requires-clause-kind
check_text-requires-clause-kind g c = node_is c.requires.fits c.index-self-node.is c.in-Str.is

pub returns-in_err-check_pointer-in-Pointer-clause-passes : goal.returns-in_err-check_pointer-in-Pointer-clause-passes
returns-in_err-check_pointer-in-Pointer-clause-passes g c = test_stopped c.from_residual.ensures c.in_err-check_pointer-in-Pointer.ensures.passes.none

pub returns-in_ok-check_pointer-in-Pointer-clause-passes : goal.returns-in_ok-check_pointer-in-Pointer-clause-passes
returns-in_ok-check_pointer-in-Pointer-clause-passes g c = test_known c.in_ok-check_pointer-in-Pointer.ensures.passes.some

pub returns-in_err-check_text-in-Str-clause-passes : goal.returns-in_err-check_text-in-Str-clause-passes
returns-in_err-check_text-in-Str-clause-passes g c = test_stopped c.from_residual-in_err-check_text-in-Str.ensures c.in_err-check_text-in-Str.ensures.passes.none

pub returns-in_ok-check_text-in-Str-clause-passes : goal.returns-in_ok-check_text-in-Str-clause-passes
returns-in_ok-check_text-in-Str-clause-passes g c = test_known c.in_ok-check_text-in-Str.ensures.passes.some
