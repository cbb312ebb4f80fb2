-- THE LINES THAT EVERY PROGRAM MAY PRINT (document 01, "The report program").
use Rattle.std.specs.Prelude.{Bool, true, false, List, ◌++◌, ℕ}
use Rattle.printing.specs.Text.{decimal}
use Rattle.printing.specs.Words.{stopped, missing, at, space, line_end}

-- a refusal number and its place, to the line's end
abbrev pub answer_text : (number place : ℕ) → List ℕ
answer_text number place = decimal number ++ at ++ decimal place ++ line_end

-- a label and a number: "steps done", "steps left"
abbrev pub count_line : (label : List ℕ) (n : ℕ) → List ℕ
count_line label n = label ++ decimal n ++ line_end

-- STOP LINES: "`stopped NAME missing`", "`stopped NAME 11 at 65536`"
abbrev pub missing_line : (name : List ℕ) → List ℕ
missing_line name = stopped ++ name ++ missing ++ line_end

abbrev pub refused_line : (name : List ℕ) (number place : ℕ) → List ℕ
refused_line name number place = stopped ++ name ++ space ++ answer_text number place

-- what stops a program at a file: nothing, it is missing, or a refusal number with its place
pub data Fault : Type 0 where
  Nothing Missing : Fault
  Refused : (number place : ℕ) → Fault

-- "Each is the only line.": at a fault its line, else what follows
abbrev pub or_stopped : Fault → (name further : List ℕ) → List ℕ
or_stopped Nothing name further = further
or_stopped Missing name further = missing_line name
or_stopped (Refused number place) name further = refused_line name number place

abbrev pub is_fault : Fault → Bool
is_fault Nothing = false
is_fault Missing = true
is_fault (Refused number place) = true
