use borrow.Author.Tests.{le-leb, lt-leb}
use mathlib.Core.Path.{refl, ap, ◌∙◌}
use mathlib.Core.List.{[], ◌∷◌}
use lib.Seq.{sets}
use Rattle.theory_machine.specs.Entries.{StepsLeft}
use Rattle.wethertide.proofs.Entries.{carried, left_told}
use Rattle.wethertide.proofs.Room.{not_first, both_tests, is-short, is-roomy}
use Rattle.wethertide.proofs.machines.wethertide_steps_left.Goals as goal

pub returns-then-machine-lt-WORDS : goal.returns-then-machine-lt-WORDS
returns-then-machine-lt-WORDS c = is-short (not_first _ (lt-leb _ _ c.if-machine-lt-WORDS.true)) (c.from.ensures, refl)

pub returns-then-answer-lt-LEFT : goal.returns-then-answer-lt-LEFT
returns-then-answer-lt-LEFT c = is-short (both_tests (le-leb _ _ c.if-machine-lt-WORDS.false) (lt-leb _ _ c.if-answer-lt-LEFT.true)) (c.from-then-answer-lt-LEFT.ensures, refl)

pub returns : goal.returns
returns c =
    let e = rw c.machine_in.ensures at c.steps_left-left.ensures in
    let told = left_told c.steps_left-left.result in
    is-roomy (both_tests (le-leb _ _ c.if-machine-lt-WORDS.false) (le-leb _ _ c.if-answer-lt-LEFT.false)) (
      c.number_of.ensures ∙ told.0 ∙ ap (λ (x : StepsLeft). x.refusal) e,
      carried (λ (x : StepsLeft) row. sets row 0 (x.left ∷ [])) {row = c.args.answer.now} (c.put_words.ensures ∙ ap (λ n. sets c.args.answer.now 0 (n ∷ [])) (c.unwrap_or.ensures ∙ told.1)) e,
    )
