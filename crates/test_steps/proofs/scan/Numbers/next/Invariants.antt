use Rattle.std.proofs.Common.{◌<◌, ◌*◌}
use Rattle.test_steps.specs.declared.scan.TheConstants.{FULL}
use Rattle.test_steps.proofs.scan.Numbers.next.Given as goal

abbrev pub invariant-loop-i : goal.invariant-loop-i
invariant-loop-i l = l.value < 10 * FULL
