use mathlib.Core.Path.{sym}
use native.Mathlib.Omega.{arith}
use lib.ListN.{length-append}
use Rattle.list_file.specs.Writing.{word_bytes}
use Rattle.seven_bit.proofs.Shortest.{few_bytes}
use Rattle.list_file.proofs.writer.word_size.Goals as goal

pub overflow_add-result : goal.overflow_add-result
overflow_add-result c =
    omega (arith, c.number_size-2.ensures, few_bytes c.r1_of.result, c.number_size-3.ensures, few_bytes c.operand_of.result)

pub overflow_add-result-2 : goal.overflow_add-result-2
overflow_add-result-2 c =
    omega (
      arith,
      c.number_size.ensures,
      few_bytes c.operation_of.result,
      c.number_size-2.ensures,
      few_bytes c.r1_of.result,
      c.number_size-3.ensures,
      few_bytes c.operand_of.result,
    )

pub returns : goal.returns
unfolding word_bytes
returns c =
    rw (
      c.number_size.ensures,
      c.operation_of.ensures,
      c.number_size-2.ensures,
      c.r1_of.ensures,
      c.number_size-3.ensures,
      c.operand_of.ensures,
    ) (sym (simp length-append))
