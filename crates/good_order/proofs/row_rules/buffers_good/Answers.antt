use mathlib.Core.Path.{◌≡◌}
use mathlib.Core.Bool.{Bool, true, false}
use lib.Ieee.{Float}
use borrow.Author.Rules.{rules}
use borrow.Author.Tests.{tests}
use Rattle.std.proofs.lemmas.Iterator.{cases_from_all, YieldsList-from_slice}
use Rattle.theory_machine.specs.Machine.{Buffer, free_buffer}
use Rattle.machine_parts.specs.View.{view_buffer}
use Rattle.machine_parts.specs.declared.BufferState.TheVariants.{Free}
use Rattle.good_order.specs.SlotRules.{buffer_good}
use Rattle.good_order.proofs.Loops.{row_seen}
use Rattle.good_order.proofs.row_rules.buffers_good.Goals as goal

pub returns : goal.returns
returns c =
    let row = c.args.buffers in
    let good : Buffer Float → Bool = buffer_good c.args.next c.args.operands in
    row_seen view_buffer good (record { state = Free }) (free_buffer) row 6 (search rules) c.all.result
    (cases_from_all _ _ c.all.result (λ x. good (view_buffer x) ≡ true) (λ x. good (view_buffer x) ≡ false) c.all.ensures.ran (YieldsList-from_slice row cc) (λ x q k. search (rules, tests)) (λ x q k. search (rules, tests)))
