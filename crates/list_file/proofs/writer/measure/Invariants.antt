use Rattle.list_file.proofs.Measured.{Sizing}
use Rattle.list_file.proofs.writer.measure.Given as goal

abbrev pub invariant-loop-place : goal.invariant-loop-place
invariant-loop-place l = Sizing l.list l.length l.place
