use mathlib.Core.Path.{sym, ap, ◌∙◌}
use native.Mathlib.Omega.{arith}
use Rattle.seven_bit.specs.SevenBits.{refused}
use Rattle.words.specs.Refusals.{number}
use Rattle.seven_bit.specs.Told.{told}
use Rattle.words.proofs.Known.{known_operation, known_register, known_operand}
use Rattle.words.proofs.Refusals.{number_real, handed_on, placed_err, placed_ok}
use Rattle.list_file.proofs.OneWord.{operation_broken, operation_fails, operation_goes, r1_broken, r1_fails, r1_goes, operand_broken, operand_fails, operand_goes}
use Rattle.list_file.proofs.reader.word_at.Goals as goal

pub returns-in_err-operation : goal.returns-in_err-operation
returns-in_err-operation c =
    ap told (handed_on _ _ c.from_residual.ensures.1) ∙ sym (operation_broken _ _ (sym c.in_err-operation.ensures))

pub returns-in_err-placed : goal.returns-in_err-placed
returns-in_err-placed c =
    let k = placed_err _ _ c.in_err-placed.ensures in
    ap told (handed_on _ _ c.from_residual-in_err-placed.ensures.1)
    ∙ (λ i. refused (number c.in_err-placed.field-0.0.refusal) (k.1 i))
    ∙ sym (operation_fails _ _ (sym c.in_ok-operation.ensures) (k.0 ∙ c.operation_refusal.ensures) (number_real _))

pub returns-in_err-r1 : goal.returns-in_err-r1
returns-in_err-r1 c =
    let o = operation_goes _ _ (sym c.in_ok-operation.ensures) (placed_ok _ _ c.in_ok-placed.ensures ∙ c.operation_refusal.ensures) in
    ap told (handed_on _ _ c.from_residual-in_err-r1.ensures.1) ∙ sym (o ∙ r1_broken _ _ _ (sym c.in_err-r1.ensures))

pub returns-in_err-placed-2 : goal.returns-in_err-placed-2
returns-in_err-placed-2 c =
    let o = operation_goes _ _ (sym c.in_ok-operation.ensures) (placed_ok _ _ c.in_ok-placed.ensures ∙ c.operation_refusal.ensures) in
    let k = placed_err _ _ c.in_err-placed-2.ensures in
    ap told (handed_on _ _ c.from_residual-in_err-placed-2.ensures.1)
    ∙ (λ i. refused (number c.in_err-placed-2.field-0.0.refusal) (k.1 i))
    ∙ sym (o ∙ r1_fails _ _ _ (sym c.in_ok-r1.ensures) (k.0 ∙ c.register_refusal.ensures) (number_real _))

pub returns-in_err-operand : goal.returns-in_err-operand
returns-in_err-operand c =
    let o = operation_goes _ _ (sym c.in_ok-operation.ensures) (placed_ok _ _ c.in_ok-placed.ensures ∙ c.operation_refusal.ensures) in
    let r = r1_goes _ _ _ (sym c.in_ok-r1.ensures) (placed_ok _ _ c.in_ok-placed-2.ensures ∙ c.register_refusal.ensures) in
    ap told (handed_on _ _ c.from_residual-in_err-operand.ensures.1) ∙ sym (o ∙ r ∙ operand_broken _ _ _ _ (sym c.in_err-operand.ensures))

pub returns-in_err-placed-3 : goal.returns-in_err-placed-3
returns-in_err-placed-3 c =
    let o = operation_goes _ _ (sym c.in_ok-operation.ensures) (placed_ok _ _ c.in_ok-placed.ensures ∙ c.operation_refusal.ensures) in
    let r = r1_goes _ _ _ (sym c.in_ok-r1.ensures) (placed_ok _ _ c.in_ok-placed-2.ensures ∙ c.register_refusal.ensures) in
    let k = placed_err _ _ c.in_err-placed-3.ensures in
    ap told (handed_on _ _ c.from_residual-in_err-placed-3.ensures.1)
    ∙ (λ i. refused (number c.in_err-placed-3.field-0.0.refusal) (k.1 i))
    ∙ sym (o ∙ r ∙ operand_fails _ _ _ _ (sym c.in_ok-operand.ensures) (k.0 ∙ c.operand_refusal-own.ensures) (number_real _))

pub word_of-requires : goal.word_of-requires
word_of-requires c =
    let o = sym (placed_ok _ _ c.in_ok-placed.ensures ∙ c.operation_refusal.ensures) in
    let r = sym (placed_ok _ _ c.in_ok-placed-2.ensures ∙ c.register_refusal.ensures) in
    let x = sym (placed_ok _ _ c.in_ok-placed-3.ensures ∙ c.operand_refusal-own.ensures) in
    let k = known_operation _ o in
    (omega (arith, k.1), omega (arith, known_register _ r), omega (arith, known_operand _ _ _ o x))

pub returns : goal.returns
returns c =
    let o = operation_goes _ _ (sym c.in_ok-operation.ensures) (placed_ok _ _ c.in_ok-placed.ensures ∙ c.operation_refusal.ensures) in
    let r = r1_goes _ _ _ (sym c.in_ok-r1.ensures) (placed_ok _ _ c.in_ok-placed-2.ensures ∙ c.register_refusal.ensures) in
    rw c.word_of.ensures (sym (o ∙ r ∙ operand_goes _ _ _ _ (sym c.in_ok-operand.ensures) (placed_ok _ _ c.in_ok-placed-3.ensures ∙ c.operand_refusal-own.ensures)))
