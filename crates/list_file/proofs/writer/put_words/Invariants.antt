use Rattle.list_file.proofs.Laid.{Putting}
use Rattle.list_file.proofs.writer.put_words.Given as goal

abbrev pub invariant-loop-word : goal.invariant-loop-word
invariant-loop-word l = Putting l.list l.initial.bytes l.start l.bytes l.at l.word-index
