use Rattle.machine_steps.specs.Advance.{view_progress}
use Rattle.lent_run.specs.ByReleases.{left}
use Rattle.lent_run.proofs.Going.{Going}
use Rattle.lent_run.proofs.run.run_schedule.Given as goal

abbrev pub invariant-loop-entry : goal.invariant-loop-entry
invariant-loop-entry l = Going l.fn.m l.fn.words l.fn.operands l.fn.results l.fn.schedule l.fn.log (view_progress l.run) l.results l.log

abbrev pub decreases-loop-entry : goal.decreases-loop-entry
decreases-loop-entry l = left (view_progress l.run) l.fn.schedule
