use mathlib.Core.Path.{ap, ◌∙◌}
use Rattle.words.specs.Instructions.{form_of}
use Rattle.words.specs.Check.{operation_refusal, register_refusal, operand_refusal}
use Rattle.words.specs.Refusals.{answer_number}
use Rattle.words.proofs.First.{by_operation, by_register, by_operand}
use Rattle.words.proofs.Refusals.{number_real, handed_on}
use Rattle.words.proofs.word_refusal.Goals as goal

pub returns-in_err-operation_refusal : goal.returns-in_err-operation_refusal
returns-in_err-operation_refusal c =
    ap answer_number (handed_on _ _ c.from_residual.ensures.1)
    ∙ by_operation c.args.areas c.args.word _ (number_real _)
    (c.in_err-operation_refusal.ensures ∙ ap operation_refusal c.operation_of-operation.ensures)

pub returns-in_err-register_refusal : goal.returns-in_err-register_refusal
returns-in_err-register_refusal c =
    ap answer_number (handed_on _ _ c.from_residual-in_err-register_refusal.ensures.1)
    ∙ by_register c.args.areas c.args.word _ (number_real _)
    (c.in_ok-operation_refusal.ensures ∙ ap operation_refusal c.operation_of-operation.ensures)
    (c.in_err-register_refusal.ensures ∙ ap register_refusal c.r1_of.ensures)

pub returns : goal.returns
returns c =
    by_operand c.args.areas c.args.word _
    (c.in_ok-operation_refusal.ensures ∙ ap operation_refusal c.operation_of-operation.ensures)
    (c.in_ok-register_refusal.ensures ∙ ap register_refusal c.r1_of.ensures)
    (c.operand_refusal.ensures
    ∙ (λ i. operand_refusal c.args.areas (form_of (c.operation_of-operation.ensures i)) (c.operand_of.ensures i)))
