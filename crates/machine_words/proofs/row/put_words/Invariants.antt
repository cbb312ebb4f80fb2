use Rattle.machine_words.proofs.Rows.{PutSoFar}
use Rattle.machine_words.proofs.row.put_words.Given as goal

abbrev pub invariant-loop-i : goal.invariant-loop-i
invariant-loop-i l = PutSoFar l.fn.words l.fn.row l.place l.row l.i
