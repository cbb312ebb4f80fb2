-- Document 01, "Instructions": each sentence of it as one definition.
use Rattle.std.specs.Prelude.{Bool, ◌&&◌, ◌||◌, List, [], ◌∷◌, ℕ, ◌+◌, ◌*◌, ◌/◌, ◌%◌, ltb, eqb, get_or}
use Rattle.numbers.specs.declared.Operation.TheVariants.{Add, Subtract, Multiply, Divide}
use Rattle.words.specs.declared.Form.{Form}
use Rattle.words.specs.declared.Form.TheVariants.{Unknown, LD, LDR, CellArithmetic, RegisterArithmetic, STD}

-- "A 32-bit word is operation × 65,536 + R1 × 4,096 + operand."
abbrev pub word_of : (operation r1 operand : ℕ) → ℕ
word_of operation r1 operand = operation * 65536 + r1 * 4096 + operand

-- "Fields come out by shifts and masks": by 16 bits; by 12, and 4 bits of that; 12 bits
abbrev pub operation_field : ℕ → ℕ
operation_field word = word / 65536

abbrev pub r1_field : ℕ → ℕ
r1_field word = word / 4096 % 16

abbrev pub operand_field : ℕ → ℕ
operand_field word = word % 4096

-- the table: what the operation's number asks for
abbrev pub table : List Form
table =
    Unknown
    ∷ LD
    ∷ LDR
    ∷ CellArithmetic Add
    ∷ RegisterArithmetic Add
    ∷ CellArithmetic Subtract
    ∷ RegisterArithmetic Subtract
    ∷ CellArithmetic Multiply
    ∷ RegisterArithmetic Multiply
    ∷ CellArithmetic Divide
    ∷ RegisterArithmetic Divide
    ∷ STD ∷ []

-- the last operation's number
abbrev pub last_operation : ℕ
last_operation = 11

abbrev pub form_of : ℕ → Form
form_of operation = get_or table operation Unknown

-- "Registers are 0, 2, 4, 6."
unfoldable pub is_register : ℕ → Bool
is_register r = eqb r 0 || (eqb r 2 || (eqb r 4 || eqb r 6))

-- "Cells are 0 to 255."
abbrev pub cell_limit : ℕ
cell_limit = 256

-- a cell of an area of so many cells
unfoldable pub is_cell : (area cell : ℕ) → Bool
is_cell area cell = ltb cell cell_limit && ltb cell area

-- "A list has 0 to 4,096 words."
abbrev pub list_limit : ℕ
list_limit = 4096
