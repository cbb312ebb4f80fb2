-- The claim, by computing.
use mathlib.Core.Path.{refl}
use lib.Ieee.{to_bits, of_bits, add, sub, mul, div}
use Rattle.words.specs.Instructions.{is_register, is_cell}
use Rattle.words.specs.Check.{operation_refusal, register_refusal, cell_refusal, word_refusal, list_check}
use Rattle.seven_bit.specs.SevenBits.{number_in, number_at, bytes_of}
use Rattle.list_file.specs.Reading.{field_at, operand_at, r1_at, word_at, list_in}
use Rattle.list_file.specs.Writing.{word_bytes}
use Rattle.theory_machine.specs.Tags.{slot_of}
use Rattle.theory_machine.specs.Instruction.{decode}
use Rattle.theory_machine.specs.GoodOrder.{giver, good_order, nothing_live, drained}
use Rattle.theory_machine.specs.Codes.{step_of}
use Rattle.theory_machine.specs.Steps.{perform, step}
use Rattle.theory_machine.specs.Count.{count_left}
use Rattle.theory_machine.specs.Entries.{fresh, one_at_a_time, steps_left, entry_refusal, lowest_permitted, lowest_step}
use Rattle.theory_run.specs.Run.{run, run_from}
use Rattle.printing.specs.Text.{decimal, pattern}
use Rattle.operands_file.specs.Operands.{pattern_at}
use Rattle.theory_report.specs.Report.{register_line, record_line, run_of, report_text}
use Rattle.theory_sessions.specs.Session.{seen}
use Rattle.theory_sessions.specs.Table.{Claim}

pub claim : Claim
unfolding to_bits report_text run_of run run_from decimal pattern register_line record_line pattern_at seen step good_order nothing_live drained perform step_of decode giver slot_of count_left fresh one_at_a_time steps_left entry_refusal lowest_permitted lowest_step
    list_check word_refusal operation_refusal register_refusal cell_refusal is_register is_cell number_in number_at bytes_of field_at operand_at r1_at word_at list_in word_bytes of_bits add sub mul div
claim = refl
