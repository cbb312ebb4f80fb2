use mathlib.Core.Path.{sym, ◌∙◌}
use native.Mathlib.Omega.{arith}
use Rattle.machine_steps.proofs.Stepping.{too_long_lem, disordered, unknown, performed, stepped_is}
use Rattle.machine_steps.proofs.step.step.Goals as goal

pub returns-then-words-gt-LIST_LIMIT : goal.returns-then-words-gt-LIST_LIMIT
returns-then-words-gt-LIST_LIMIT c = too_long_lem _ _ _ _ _ c.if-words-gt-LIST_LIMIT.true c.refused.ensures

pub returns-then-not-in_good_order : goal.returns-then-not-in_good_order
returns-then-not-in_good_order c =
    disordered _ _ _ _ _ c.if-words-gt-LIST_LIMIT.false (sym (rw c.of.ensures at c.in_good_order.ensures) ∙ c.if-not-in_good_order.true) c.refused-then-not-in_good_order.ensures

pub returns-then-code-gt-ONE_BYTE : goal.returns-then-code-gt-ONE_BYTE
returns-then-code-gt-ONE_BYTE c =
    unknown _ _ _ _ _
    c.if-words-gt-LIST_LIMIT.false
    (sym (rw c.of.ensures at c.in_good_order.ensures) ∙ c.if-not-in_good_order.false)
    c.if-code-gt-ONE_BYTE.true
    c.refused-then-code-gt-ONE_BYTE.ensures

pub returns : goal.returns
returns c =
    performed _ _ _ _ _
    c.if-words-gt-LIST_LIMIT.false
    (sym (rw c.of.ensures at c.in_good_order.ensures) ∙ c.if-not-in_good_order.false)
    (stepped_is _ _ _ c.take_codes-taken.result c.take_codes-taken.ensures (omega arith))
    c.write_released.ensures
