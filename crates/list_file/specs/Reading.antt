-- Document 01, "The list file and the schedule": reading a list file.
use Rattle.std.specs.Prelude.{cond, List, [], ◌∷◌, ◌++◌, ℕ, zero, suc, ltb, eqb, length, drop}
use Rattle.words.specs.Instructions.{word_of, form_of, list_limit}
use Rattle.words.specs.Check.{operation_refusal, register_refusal, operand_refusal, no_areas, first_of}
use Rattle.seven_bit.specs.SevenBits.{Parsed, accepted, refused, number_at}

-- "Reading goes left to right": what is read next begins where this ended; a refusal ends the reading
abbrev pub and_then : {A B : Type 0} → Parsed A → (A → ℕ → Parsed B) → Parsed B
and_then (accepted value next) later = later value next
and_then (refused refusal place) later = refused refusal place

-- "for each number 8, 9, then its own refusal"
abbrev pub owned : (ℕ → ℕ) → ℕ → Parsed ℕ → Parsed ℕ
owned own at (accepted value next) = cond (eqb (own value) 0) (accepted value next) (refused (own value) at)
owned own at (refused refusal place) = refused refusal place

unfoldable pub field_at : (ℕ → ℕ) → List ℕ → ℕ → Parsed ℕ
field_at own bytes at = owned own at (number_at bytes at)

-- "then operation, R1 and operand for each word": what is left of a word at its operand, at its R1, and whole
unfoldable pub operand_at : (operation r1 : ℕ) → List ℕ → ℕ → Parsed ℕ
operand_at operation r1 bytes at =
    and_then (field_at (operand_refusal no_areas (form_of operation)) bytes at)
    (λ operand next. accepted (word_of operation r1 operand) next)

unfoldable pub r1_at : (operation : ℕ) → List ℕ → ℕ → Parsed ℕ
r1_at operation bytes at = and_then (field_at register_refusal bytes at) (λ r1 next. operand_at operation r1 bytes next)

unfoldable pub word_at : List ℕ → ℕ → Parsed ℕ
word_at bytes at = and_then (field_at operation_refusal bytes at) (λ operation next. r1_at operation bytes next)

-- so many words, and "at the end 10": "for 10, the first byte left". "An accepted read gives .. the file's length as place."
abbrev pub words_at : ℕ → List ℕ → ℕ → Parsed (List ℕ)
words_at zero bytes at = cond (ltb at (length bytes)) (refused 10 at) (accepted [] (length bytes))
words_at (suc count) bytes at =
    and_then (word_at bytes at) (λ word next. and_then (words_at count bytes next) (λ words end. accepted (word ∷ words) end))

-- "after the count 1, then 11 if the word buffer is short"
abbrev pub count_refusal : (room count : ℕ) → ℕ
count_refusal room count = first_of (cond (ltb list_limit count) 1 0 ∷ cond (ltb room count) 11 0 ∷ [])

-- "A list file is the count, then .. each word", read with room for so many words
unfoldable pub list_in : (room : ℕ) → List ℕ → Parsed (List ℕ)
list_in room bytes = and_then (field_at (count_refusal room) bytes 0) (λ count at. words_at count bytes at)

-- the answer of a read: how many words, and a refusal number, 0 for accepted, with its byte place
pub record ListRead : Type 0 where
  pub count : ℕ
  pub refusal : ℕ
  pub place : ℕ

-- "An accepted read gives the count, and the file's length as place; a refused one count 0."
abbrev pub answered : Parsed (List ℕ) → ListRead
answered (accepted words end) = record { count = length words; refusal = 0; place = end }
answered (refused refusal place) = record { count = 0; refusal = refusal; place = place }

-- a row written from a buffer's start: what stands beyond it stays as found
abbrev pub over : {A : Type 0} → List A → List A → List A
over row buffer = row ++ drop (length row) buffer

-- "A refused call .. writes nothing", "Words beyond the count stay as found."
abbrev pub stored : Parsed (List ℕ) → List ℕ → List ℕ
stored (accepted words end) buffer = over words buffer
stored (refused refusal place) buffer = buffer

-- THE READER: a file and a word buffer give the answer and the buffer
abbrev pub read_answer : (bytes buffer : List ℕ) → ListRead
read_answer bytes buffer = answered (list_in (length buffer) bytes)

abbrev pub read_words : (bytes buffer : List ℕ) → List ℕ
read_words bytes buffer = stored (list_in (length buffer) bytes) buffer
