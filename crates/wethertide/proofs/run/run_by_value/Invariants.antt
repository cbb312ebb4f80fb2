use mathlib.Core.Bool.{true}
use Rattle.machine_steps.specs.Advance.{view_progress}
use Rattle.lent_run.specs.ByReleases.{left}
use Rattle.wethertide.proofs.Logging.{Logs}
use Rattle.wethertide.proofs.run.run_by_value.Given as goal

abbrev pub invariant-loop-entry : goal.invariant-loop-entry
invariant-loop-entry l =
    Logs (view_progress l.initial.run) l.words l.operands l.initial.results l.schedule l.initial.log (view_progress l.run) true l.results l.log

abbrev pub decreases-loop-entry : goal.decreases-loop-entry
decreases-loop-entry l = left (view_progress l.run) l.schedule
