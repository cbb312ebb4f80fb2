use borrow.Author.Tests.{le-leb, lt-leb}
use mathlib.Core.Path.{refl, ap, ◌∙◌}
use lib.Seq.{sets}
use Rattle.theory_machine.specs.Entries.{LowestStep}
use Rattle.wethertide.specs.Entries.{lowest_words}
use Rattle.machine_steps.specs.Lowest.{view_lowest}
use Rattle.wethertide.proofs.Entries.{carried, lowest_told}
use Rattle.wethertide.proofs.Room.{not_first, both_tests, is-short, is-roomy}
use Rattle.wethertide.proofs.machines.wethertide_lowest_step.Goals as goal

pub returns-then-machine-lt-WORDS : goal.returns-then-machine-lt-WORDS
returns-then-machine-lt-WORDS c = is-short (not_first _ (lt-leb _ _ c.if-machine-lt-WORDS.true)) (c.from.ensures, refl)

pub returns-then-answer-lt-LOWEST : goal.returns-then-answer-lt-LOWEST
returns-then-answer-lt-LOWEST c = is-short (both_tests (le-leb _ _ c.if-machine-lt-WORDS.false) (lt-leb _ _ c.if-answer-lt-LOWEST.true)) (c.from-then-answer-lt-LOWEST.ensures, refl)

pub returns : goal.returns
returns c =
    let e = rw c.machine_in.ensures at c.lowest_step-lowest.ensures in
    let told = lowest_told c.lowest_step-lowest.result in
    is-roomy (both_tests (le-leb _ _ c.if-machine-lt-WORDS.false) (le-leb _ _ c.if-answer-lt-LOWEST.false)) (
      c.number_of.ensures ∙ told.0 ∙ ap (λ (x : LowestStep). x.refusal) e,
      carried (λ (x : LowestStep) row. sets row 0 (lowest_words x.code)) {row = c.args.answer.now}
          (c.put_words.ensures ∙ ap (sets c.args.answer.now 0) (c.lowest_words.ensures ∙ ap (λ o. lowest_words (view_lowest o)) c.unwrap_or.ensures ∙ ap lowest_words told.1)) e,
    )
