-- Document 01, "Refusal numbers", 1 to 4: a word and a list, alone and against the lengths of the two areas. 0 is accepted.
use Rattle.std.specs.Prelude.{cond, ◌&&◌, List, [], ◌∷◌, ℕ, suc, ltb, leb, eqb, length}
use Rattle.words.specs.declared.Form.{Form}
use Rattle.words.specs.declared.Form.TheVariants.{Unknown, LD, LDR, CellArithmetic, RegisterArithmetic, STD}
use Rattle.words.specs.declared.Areas.{Areas}
use Rattle.words.specs.Instructions.{operation_field, r1_field, operand_field, last_operation, form_of, is_register, is_cell, cell_limit, list_limit}

-- the answer of a check of a list: a refusal's number with its place
pub record Verdict : Type 0 where
  pub refusal : ℕ
  pub place : ℕ

-- 2: "operation not 1 to 11"
unfoldable pub operation_refusal : ℕ → ℕ
operation_refusal operation = cond (leb 1 operation && leb operation last_operation) 0 2

-- 3: "register not 0, 2, 4 or 6"
unfoldable pub register_refusal : ℕ → ℕ
register_refusal register = cond (is_register register) 0 3

-- 4: "cell above 255, or not below the length of its area where areas are lent"
unfoldable pub cell_refusal : (area cell : ℕ) → ℕ
cell_refusal area cell = cond (is_cell area cell) 0 4

-- "the operand's 3 or 4": a register's, or a cell's in the area that the instruction names
abbrev pub operand_refusal : Areas → Form → ℕ → ℕ
operand_refusal areas Unknown x = 0
operand_refusal areas LD x = cell_refusal areas.operands x
operand_refusal areas LDR x = register_refusal x
operand_refusal areas (CellArithmetic o) x = cell_refusal areas.operands x
operand_refusal areas (RegisterArithmetic o) x = register_refusal x
operand_refusal areas STD x = cell_refusal areas.results x

-- the first refusal of several, in order
abbrev pub first_of : List ℕ → ℕ
first_of [] = 0
first_of (n ∷ ns) = cond (eqb n 0) (first_of ns) n

-- "inside a word 2, then R1's 3, then the operand's 3 or 4"
unfoldable pub word_refusal : Areas → (word : ℕ) → ℕ
word_refusal areas word =
    first_of
    (operation_refusal (operation_field word)
    ∷ register_refusal (r1_field word)
    ∷ operand_refusal areas (form_of (operation_field word)) (operand_field word) ∷ [])

-- "the first bad word, with its place (accepted: the length)", of words that stand at place k and on
abbrev pub first_bad : Areas → (k : ℕ) → List ℕ → Verdict
first_bad areas k [] = record { refusal = 0; place = k }
first_bad areas k (w ∷ ws) =
    let rest = first_bad areas (suc k) ws in
    cond (eqb (word_refusal areas w) 0) rest (record { refusal = word_refusal areas w; place = k })

-- "List check: 1 (place 4,096), then the first bad word", against the areas
unfoldable pub list_check : Areas → List ℕ → Verdict
list_check areas words =
    cond (ltb list_limit (length words)) (record { refusal = 1; place = list_limit }) (first_bad areas 0 words)

-- without areas only the cell limit speaks
abbrev pub no_areas : Areas
no_areas = record { operands = cell_limit; results = cell_limit }

abbrev pub list_check_alone : List ℕ → Verdict
list_check_alone words = list_check no_areas words
