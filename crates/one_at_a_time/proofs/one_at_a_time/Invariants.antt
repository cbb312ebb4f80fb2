use Rattle.one_at_a_time.proofs.Runs.{Running}
use Rattle.one_at_a_time.proofs.one_at_a_time.Given as goal

abbrev pub invariant-loop-word : goal.invariant-loop-word
invariant-loop-word l = Running l.words l.operands l.initial.registers l.initial.results l.registers l.results l.word-index
