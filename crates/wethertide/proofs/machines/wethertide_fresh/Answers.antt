use borrow.Author.Tests.{le-leb, lt-leb}
use mathlib.Core.Path.{refl, ap, ◌∙◌}
use lib.Ieee.{Float}
use Rattle.theory_machine.specs.Entries.{Fresh}
use Rattle.machine_words.specs.Image.{image_over}
use Rattle.wethertide.proofs.Entries.{carried}
use Rattle.wethertide.proofs.Room.{not_first, both_tests, is-short, is-roomy}
use Rattle.wethertide.proofs.machines.wethertide_fresh.Goals as goal

pub returns-then-starts-lt-COUNT : goal.returns-then-starts-lt-COUNT
returns-then-starts-lt-COUNT c = is-short (not_first _ (lt-leb _ _ c.if-starts-lt-COUNT.true)) (c.from.ensures, refl)

pub returns-then-machine-lt-WORDS : goal.returns-then-machine-lt-WORDS
returns-then-machine-lt-WORDS c = is-short (both_tests (le-leb _ _ c.if-starts-lt-COUNT.false) (lt-leb _ _ c.if-machine-lt-WORDS.true)) (c.from-then-machine-lt-WORDS.ensures, refl)

pub returns : goal.returns
returns c =
    let e = rw c.starts_in.ensures at c.fresh-begun.ensures in
    is-roomy (both_tests (le-leb _ _ c.if-starts-lt-COUNT.false) (le-leb _ _ c.if-machine-lt-WORDS.false))
    (c.number_of.ensures ∙ ap (λ (x : Fresh Float). x.refusal) e, carried (λ (x : Fresh Float) row. image_over x.machine row) {row = c.args.machine.now} c.put_machine.ensures e)
