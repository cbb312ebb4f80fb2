-- What only private contracts cite: what the functions of the passes do, in terms of the reader's and the writer's definitions.
use Rattle.std.specs.Prelude.{◌≡◌, List, ℕ, length, Result, Ok, Err}
use Rattle.words.specs.declared.refusal.Refused.{Refused}
use Rattle.words.specs.Refusals.{number}
use Rattle.words.specs.Check.{list_check_alone}
use Rattle.seven_bit.specs.SevenBits.{Parsed, accepted, refused}
use Rattle.list_file.specs.declared.Written.{Written}
use Rattle.list_file.specs.Writing.{file_of}

-- what the reader's pass over the words of a file came to: the words kept, or what stopped it
abbrev pub kept_by : Result Unit Refused → (kept : List ℕ) → (end : ℕ) → Parsed (List ℕ)
kept_by (Ok u) kept end = accepted kept end
kept_by (Err r) kept end = refused (number r.refusal) r.place

-- the writer's first pass: the list check's answer, and the file's length where it accepts
abbrev pub Measuring : (words : List ℕ) → Result Written Refused → Type 0
Measuring words (Ok m) = (record { refusal = 0; place = m.place } ≡ list_check_alone words) × (m.length ≡ length (file_of words))
Measuring words (Err r) = record { refusal = number r.refusal; place = r.place } ≡ list_check_alone words
