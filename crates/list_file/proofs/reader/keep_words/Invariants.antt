use Rattle.list_file.proofs.Words.{Keeping}
use Rattle.list_file.proofs.reader.keep_words.Given as goal

abbrev pub invariant-loop-place : goal.invariant-loop-place
invariant-loop-place l = Keeping l.bytes l.start l.initial.kept l.kept l.at l.place-index
