-- Document 01, "Instructions": a word, read. The fields, the table and the check are those of crate words.
use Rattle.std.specs.Prelude.{ℕ, ◌/◌}
use Rattle.numbers.specs.declared.Operation.{Operation}
use Rattle.words.specs.declared.Form.{Form}
use Rattle.words.specs.declared.Form.TheVariants.{Unknown, LD, LDR, CellArithmetic, RegisterArithmetic, STD}
use Rattle.words.specs.Instructions.{form_of, operation_field, r1_field, operand_field}

-- registers by their index: "Registers are 0, 2, 4, 6"
abbrev pub index_of : ℕ → ℕ
index_of register = register / 2

-- "LD", "LDR", "Cell arithmetic", "Register arithmetic", "STD": r is R1's index, x the other register's
pub data Instruction : Type 0 where
  no_instruction : Instruction
  load store : (r cell : ℕ) → Instruction
  copy : (r x : ℕ) → Instruction
  cell_arithmetic : Operation → (r cell : ℕ) → Instruction
  register_arithmetic : Operation → (r x : ℕ) → Instruction

abbrev pub instruction : Form → (r1 operand : ℕ) → Instruction
instruction Unknown r1 operand = no_instruction
instruction LD r1 operand = load (index_of r1) operand
instruction LDR r1 operand = copy (index_of r1) (index_of operand)
instruction (CellArithmetic o) r1 operand = cell_arithmetic o (index_of r1) operand
instruction (RegisterArithmetic o) r1 operand = register_arithmetic o (index_of r1) (index_of operand)
instruction STD r1 operand = store (index_of r1) operand

unfoldable pub decode : ℕ → Instruction
decode word = instruction (form_of (operation_field word)) (r1_field word) (operand_field word)

-- the register R1 of an instruction
abbrev pub r1_of : Instruction → ℕ
r1_of no_instruction = 0
r1_of (load r c) = r
r1_of (store r c) = r
r1_of (copy r x) = r
r1_of (cell_arithmetic o r c) = r
r1_of (register_arithmetic o r x) = r
