use mathlib.Core.Path.{◌≡◌}
use mathlib.Core.Bool.{Bool, true, false}
use lib.Ieee.{Float, nan}
use borrow.Author.Rules.{rules}
use borrow.Author.Tests.{tests}
use Rattle.std.proofs.lemmas.Iterator.{cases_from_all, YieldsList-from_slice}
use Rattle.theory_machine.specs.Machine.{Operand, num}
use Rattle.theory_machine.specs.Binary64.{binary64}
use Rattle.machine_parts.specs.View.{view_register}
use Rattle.machine_parts.specs.declared.Operand.TheVariants.{Number}
use Rattle.good_order.specs.SlotRules.{place_in, register_good}
use Rattle.good_order.proofs.Loops.{row_seen}
use Rattle.good_order.proofs.row_rules.registers_good.Goals as goal

pub returns : goal.returns
returns c =
    let row = c.args.registers in
    let good : Operand Float → Bool = register_good (place_in c.args.places.now) in
    row_seen view_register good (record { operand = Number nan }) (num binary64.nought) row 4 (search rules) c.all.result
    (cases_from_all _ _ c.all.result (λ x. good (view_register x) ≡ true) (λ x. good (view_register x) ≡ false) c.all.ensures.ran (YieldsList-from_slice row cc) (λ x q k. search (rules, tests)) (λ x q k. search (rules, tests)))
