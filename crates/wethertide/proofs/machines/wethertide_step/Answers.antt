use mathlib.Core.Path.{refl, sym, ap, ◌∙◌}
use borrow.Author.Tests.{le-leb, lt-leb}
use Rattle.words.specs.Refusals.{answer_number}
use Rattle.machine_parts.specs.View.{released_by}
use Rattle.wethertide.specs.Entries.{released_words}
use Rattle.wethertide.proofs.Entries.{step-taken}
use Rattle.wethertide.proofs.Room.{not_first, both_tests, is-short, is-roomy}
use Rattle.wethertide.proofs.machines.wethertide_step.Goals as goal

pub returns-then-machine-lt-WORDS : goal.returns-then-machine-lt-WORDS
returns-then-machine-lt-WORDS c = is-short (not_first _ (lt-leb _ _ c.if-machine-lt-WORDS.true)) (c.from.ensures, refl, refl, refl)

pub returns-then-released-lt-RELEASED : goal.returns-then-released-lt-RELEASED
returns-then-released-lt-RELEASED c = is-short (both_tests (le-leb _ _ c.if-machine-lt-WORDS.false) (lt-leb _ _ c.if-released-lt-RELEASED.true)) (c.from-then-released-lt-RELEASED.ensures, refl, refl, refl)

pub returns : goal.returns
returns c =
    is-roomy (both_tests (le-leb _ _ c.if-machine-lt-WORDS.false) (le-leb _ _ c.if-released-lt-RELEASED.false))
    (step-taken c.machine_in.ensures c.step-stepped.ensures (ap answer_number c.in-Ok.is) c.put_machine.ensures
    (c.released_words.ensures ∙ ap (λ o. released_words (released_by o)) (sym c.in-Ok.is)) c.put_words.ensures)
