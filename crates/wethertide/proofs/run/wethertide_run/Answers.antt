use mathlib.Core.Path.{refl}
use borrow.Author.Tests.{le-leb, lt-leb}
use Rattle.wethertide.proofs.Entries.{run-words}
use Rattle.wethertide.proofs.Room.{not_first, both_tests, is-short, is-roomy}
use Rattle.wethertide.proofs.run.wethertide_run.Goals as goal

pub returns-then-machine-lt-WORDS : goal.returns-then-machine-lt-WORDS
returns-then-machine-lt-WORDS c = is-short (not_first _ (lt-leb _ _ c.if-machine-lt-WORDS.true)) (c.from.ensures, refl, refl, refl, refl)

pub returns-then-answer-lt-RAN : goal.returns-then-answer-lt-RAN
returns-then-answer-lt-RAN c = is-short (both_tests (le-leb _ _ c.if-machine-lt-WORDS.false) (lt-leb _ _ c.if-answer-lt-RAN.true)) (c.from-then-answer-lt-RAN.ensures, refl, refl, refl, refl)

pub returns : goal.returns
returns c =
    is-roomy (both_tests (le-leb _ _ c.if-machine-lt-WORDS.false) (le-leb _ _ c.if-answer-lt-RAN.false))
    (rw c.number_of.ensures (run-words (rw c.machine_in-m.ensures at c.run_by_value-run.ensures) c.put_taken.ensures c.put_words.ensures))
