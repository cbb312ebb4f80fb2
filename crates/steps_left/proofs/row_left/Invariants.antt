use Rattle.steps_left.proofs.Sums.{Summed}
use Rattle.steps_left.proofs.row_left.Given as goal

abbrev pub invariant-loop-counted : goal.invariant-loop-counted
invariant-loop-counted g l = Summed g.T.Counted.weight l.row l.counted-index l.left
