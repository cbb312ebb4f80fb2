-- The one-at-a-time run: each instruction of the list, done whole before the next (the column "meaning" of document 01's table).
use Rattle.std.specs.Prelude.{List, ℕ, zero, suc, get_or, set}
use Rattle.theory_machine.specs.Instruction.{Instruction, no_instruction, load, store, copy, cell_arithmetic, register_arithmetic}
use Rattle.theory_machine.specs.Machine.{Kind, Lent}
use Rattle.theory_machine.specs.Issue.{instruction_at}
use Rattle.theory_machine.specs.Steps.{operand_cell}

-- registers and result cells
pub record Run (A : Type 0) : Type 0 where
  pub registers : List A
  pub cells : List A

module _ (K : Kind) where
  abbrev pub value : Run K.Num → (r : ℕ) → K.Num
  value s r = get_or s.registers r K.nought

  abbrev pub register_takes : Run K.Num → (r : ℕ) → K.Num → Run K.Num
  register_takes s r v = record { registers = set s.registers r v; cells = s.cells }

  abbrev pub cell_takes : Run K.Num → (c : ℕ) → K.Num → Run K.Num
  cell_takes s c v = record { registers = s.registers; cells = set s.cells c v }

  module _ (L : Lent K.Num) where
    -- "R1 takes the operand"; "R1 plus, minus, times, over operand to R1"; "R1 to the result cell"
    abbrev pub execute : Instruction → Run K.Num → Run K.Num
    execute no_instruction s = s
    execute (load r c) s = register_takes s r (operand_cell K L c)
    execute (copy r x) s = register_takes s r (value s x)
    execute (cell_arithmetic o r c) s = register_takes s r (K.apply o (value s r) (operand_cell K L c))
    execute (register_arithmetic o r x) s = register_takes s r (K.apply o (value s r) (value s x))
    execute (store r c) s = cell_takes s c (value s r)

    -- after the first n instructions of the list
    abbrev pub run_to : Run K.Num → (n : ℕ) → Run K.Num
    run_to s zero = s
    run_to s (suc n) = execute (instruction_at K L n) (run_to s n)
