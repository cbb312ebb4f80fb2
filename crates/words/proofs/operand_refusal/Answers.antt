use mathlib.Core.Path.{sym, ap, ◌∙◌}
use Prim.Native.Nat.{◌%◌}
use lib.Dec.{eqb}
use Rattle.words.specs.Operands.{held_refusal}
use Rattle.words.proofs.Operands.{by_none, by_its_operation}
use Rattle.words.proofs.Refusals.{refused_number, accepted_number}
use Rattle.words.proofs.operand_refusal.Goals as goal

pub returns-then-is_err : goal.returns-then-is_err
returns-then-is_err c =
    let a = c.args in
    by_none a.areas a.operand a.operation
    (λ e. refused_number c.operation_refusal.result (sym c.is_err.ensures.value ∙ c.if-is_err.true) (c.operation_refusal.ensures ∙ e))

pub returns : goal.returns
returns c =
    let a = c.args in
    c.held_refusal.ensures ∙ ap (held_refusal a.operand (eqb (a.operation % 2) 0)) c.chosen-area.ensures
    ∙ by_its_operation a.areas a.operand a.operation
    (sym c.operation_refusal.ensures ∙ accepted_number c.operation_refusal.result (sym c.is_err.ensures.value ∙ c.if-is_err.false))
