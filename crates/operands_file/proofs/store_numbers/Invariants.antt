use lib.ListN.{length}
use Rattle.operands_file.proofs.Joining.{Laying}
use Rattle.operands_file.proofs.store_numbers.Given as goal

abbrev pub invariant-loop-i : goal.invariant-loop-i
invariant-loop-i l = Laying l.bytes l.initial.cells (length l.initial.cells) l.cells l.i
