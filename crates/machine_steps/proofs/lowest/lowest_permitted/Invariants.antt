use Rattle.theory_machine.specs.Codes.{code_limit}
use Rattle.machine_steps.proofs.Permits.{permits}
use Rattle.machine_steps.proofs.First.{Searching}
use Rattle.machine_steps.proofs.lowest.lowest_permitted.Given as goal

abbrev pub invariant-loop-code : goal.invariant-loop-code
invariant-loop-code l = Searching (permits l.m l.words l.operands l.results) code_limit l.code
