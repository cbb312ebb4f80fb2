use borrow.Author.Rules.{rules}
use borrow.Author.Tests.{le-leb, lt-leb}
use mathlib.Core.Path.{refl, ap, ◌∙◌}
use lib.Ieee.{Float}
use lib.Seq.{sets}
use Rattle.theory_machine.specs.Entries.{OneAtATime}
use Rattle.wethertide.proofs.Entries.{carried, front_set}
use Rattle.wethertide.proofs.Room.{is-short, is-roomy}
use Rattle.wethertide.proofs.machines.wethertide_one_at_a_time.Goals as goal

pub returns-then-registers-lt-COUNT : goal.returns-then-registers-lt-COUNT
returns-then-registers-lt-COUNT c = is-short (lt-leb _ _ c.if-registers-lt-COUNT.true) (c.from.ensures, refl, refl)

pub returns : goal.returns
returns c =
    let e = rw c.starts_in-starts.ensures at c.one_at_a_time-ran.ensures in
    is-roomy (le-leb _ _ c.if-registers-lt-COUNT.false) (
      c.number_of.ensures ∙ ap (λ (x : OneAtATime Float). x.refusal) e,
      ap (λ (x : OneAtATime Float). x.run.cells) e,
      carried (λ (x : OneAtATime Float) row. sets row 0 x.run.registers) {row = c.args.registers.now}
          (front_set 4 c.args.registers.now c.one_at_a_time-ran.result.registers c.if-registers-lt-COUNT.false (search (rules, c.one_at_a_time-ran.type_inv)) c.copy_from_slice.ensures.after) e,
    )
