-- Document 01, "The list file and the schedule": writing a list file.
use Rattle.std.specs.Prelude.{cond, List, [], ◌∷◌, ◌++◌, ℕ, ltb, eqb, length}
use Rattle.words.specs.Check.{Verdict}
use Rattle.words.specs.Instructions.{operation_field, r1_field, operand_field}
use Rattle.words.specs.Check.{list_check_alone}
use Rattle.seven_bit.specs.SevenBits.{bytes_of}
use Rattle.list_file.specs.Reading.{over}

-- "operation, R1 and operand for each word"
unfoldable pub word_bytes : ℕ → List ℕ
word_bytes word = bytes_of (operation_field word) ++ (bytes_of (r1_field word) ++ bytes_of (operand_field word))

abbrev pub words_bytes : List ℕ → List ℕ
words_bytes [] = []
words_bytes (word ∷ words) = word_bytes word ++ words_bytes words

-- "A list file is the count, then operation, R1 and operand for each word."
abbrev pub file_of : List ℕ → List ℕ
file_of words = bytes_of (length words) ++ words_bytes words

-- the answer of a write: the file's length, and a refusal number, 0 for accepted, with the list check's place
pub record Written : Type 0 where
  pub length : ℕ
  pub refusal : ℕ
  pub place : ℕ

-- "Writing checks the list without areas, then 11, and gives the file's length, 0 when refused"; the place is the check's
abbrev pub written_by : Verdict → (room length : ℕ) → Written
written_by check room size =
    cond (eqb check.refusal 0)
    (cond (ltb room size) (record { length = 0; refusal = 11; place = check.place }) (record { length = size; refusal = 0; place = check.place }))
    (record { length = 0; refusal = check.refusal; place = check.place })

-- THE WRITER: a list and a byte buffer give the answer and the buffer; "bytes beyond the file stay"
abbrev pub write_answer : (words buffer : List ℕ) → Written
write_answer words buffer = written_by (list_check_alone words) (length buffer) (length (file_of words))

abbrev pub write_bytes : (words buffer : List ℕ) → List ℕ
write_bytes words buffer = cond (eqb (write_answer words buffer).refusal 0) (over (file_of words) buffer) buffer
