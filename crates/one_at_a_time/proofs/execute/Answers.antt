use native.Mathlib.Omega.{arith}
use lib.Ieee.{nan}
use Rattle.words.specs.declared.Form.TheVariants.{LD, LDR, STD}
use Rattle.theory_machine.specs.Instruction.{index_of}
use Rattle.theory_machine.specs.Binary64.{binary64}
use Rattle.theory_machine.proofs.Words.{cell_in_area}
use Rattle.machine_parts.proofs.Seen.{any_default}
use Rattle.one_at_a_time.proofs.Decoded.{decoded}
use Rattle.one_at_a_time.proofs.execute.Goals as goal

pub returns-in-LD : goal.returns-in-LD
returns-in-LD c =
    let d = decoded _ _ LD c.requires.word_value c.operation_of.ensures c.form_of-form.ensures c.in-LD.is c.r1_of.ensures c.operand_of-operand.ensures in
    let a = c.args in
    let four = c.requires.registers_len in
    rw (
      d.is,
      c.index_of-r.ensures,
      any_default a.operands.now c.operand_of-operand.result nan binary64.nought (cell_in_area _ _ d.formed.1),
    )

pub returns-in-LDR : goal.returns-in-LDR
returns-in-LDR c =
    let d = decoded _ _ LDR c.requires.word_value c.operation_of.ensures c.form_of-form.ensures c.in-LDR.is c.r1_of.ensures c.operand_of-operand.ensures in
    let a = c.args in
    let four = c.requires.registers_len in
    rw (
      d.is,
      c.index_of-r.ensures,
      c.index_of.ensures,
      any_default a.registers.now (index_of c.operand_of-operand.result) nan binary64.nought (omega (arith, d.formed.1)),
    )

pub returns-in-CellArithmetic : goal.returns-in-CellArithmetic
returns-in-CellArithmetic c =
    let d = decoded _ _ _ c.requires.word_value c.operation_of.ensures c.form_of-form.ensures c.in-CellArithmetic.is c.r1_of.ensures c.operand_of-operand.ensures in
    let a = c.args in
    let four = c.requires.registers_len in
    rw (
      d.is,
      c.computed.ensures,
      c.index_of-r.ensures,
      any_default a.registers.now (index_of c.r1_of.result) nan binary64.nought (omega (arith, d.formed.0)),
      any_default a.operands.now c.operand_of-operand.result nan binary64.nought (cell_in_area _ _ d.formed.1),
    )

pub returns-in-RegisterArithmetic : goal.returns-in-RegisterArithmetic
returns-in-RegisterArithmetic c =
    let d = decoded _ _ _ c.requires.word_value c.operation_of.ensures c.form_of-form.ensures c.in-RegisterArithmetic.is c.r1_of.ensures c.operand_of-operand.ensures in
    let a = c.args in
    let four = c.requires.registers_len in
    rw (
      d.is,
      c.computed-in-RegisterArithmetic.ensures,
      c.index_of-r.ensures,
      c.index_of-in-RegisterArithmetic.ensures,
      any_default a.registers.now (index_of c.r1_of.result) nan binary64.nought (omega (arith, d.formed.0)),
      any_default a.registers.now (index_of c.operand_of-operand.result) nan binary64.nought (omega (arith, d.formed.1)),
    )

pub returns-in-STD : goal.returns-in-STD
returns-in-STD c =
    let d = decoded _ _ STD c.requires.word_value c.operation_of.ensures c.form_of-form.ensures c.in-STD.is c.r1_of.ensures c.operand_of-operand.ensures in
    let a = c.args in
    let four = c.requires.registers_len in
    rw (
      d.is,
      c.index_of-r.ensures,
      any_default a.registers.now (index_of c.r1_of.result) nan binary64.nought (omega (arith, d.formed.0)),
    )
