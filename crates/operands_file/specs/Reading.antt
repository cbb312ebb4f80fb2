-- THE READER OF AN OPERANDS FILE (document 01, "The report program"): what is refused, and what is stored.
use Rattle.std.specs.Prelude.{cond, List, ◌++◌, ℕ, ◌*◌, ◌/◌, ltb, eqb, Float, length, drop}
use Rattle.words.specs.Check.{Verdict}
use Rattle.operands_file.specs.Operands.{pattern_size, operands_limit, operands_in}

-- the answer of a read: a refusal number, 0 for accepted, with its place; and how many numbers were stored
pub record OperandsRead : Type 0 where
  pub refusal : ℕ
  pub place : ℕ
  pub count : ℕ

-- "operands above 2,048 bytes give 4 at 2048, and a cut pattern gives 8 at its start": by the file's length, which is the place of a good one
abbrev pub operands_verdict : (size : ℕ) → Verdict
operands_verdict size =
    let whole = size / pattern_size * pattern_size in
    cond (ltb operands_limit size) (record { refusal = 4; place = operands_limit })
    (cond (ltb whole size) (record { refusal = 8; place = whole })
    (record { refusal = 0; place = size }))

-- 11 "The lent buffer .. is too small", at 0, comes last; a refused file counts 0
abbrev pub answered_of : (room count : ℕ) → Verdict → OperandsRead
answered_of room count verdict =
    cond (eqb verdict.refusal 0)
    (cond (ltb room count) (record { refusal = 11; place = 0; count = 0 }) (record { refusal = 0; place = verdict.place; count = count }))
    (record { refusal = verdict.refusal; place = verdict.place; count = 0 })

-- the numbers over the front of the cells, and the rest as found; "A refused call .. writes nothing"
abbrev pub stored_of : OperandsRead → (numbers cells : List Float) → List Float
stored_of answer numbers cells = cond (eqb answer.refusal 0) (numbers ++ drop (length numbers) cells) cells

-- THE READER: a file and the lent cells give the answer and the cells
abbrev pub read_answer : (bytes : List ℕ) (cells : List Float) → OperandsRead
read_answer bytes cells = answered_of (length cells) (length (operands_in bytes)) (operands_verdict (length bytes))

abbrev pub read_cells : (bytes : List ℕ) (cells : List Float) → List Float
read_cells bytes cells = stored_of (read_answer bytes cells) (operands_in bytes) cells
