use Rattle.machine_words.proofs.Rows.{PutRow}
use Rattle.machine_words.proofs.spelling.put_row.Given as goal

abbrev pub invariant-loop-slot : goal.invariant-loop-slot
invariant-loop-slot g l = PutRow g.T.Spelled.spelling g.row.N l.fn.from l.slots l.fn.row l.slot-index l.place l.row
