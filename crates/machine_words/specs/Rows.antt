-- Rows that a caller lends. What is absent reads as 0; `sets` of the kit's lib.Seq stores one after another and drops what there is no room for.
use Rattle.std.specs.Prelude.{List, ℕ, Float, get_or}
use Rattle.theory_machine.specs.Binary64.{binary64}

abbrev pub word_at : List ℕ → (place : ℕ) → ℕ
word_at row place = get_or row place 0

abbrev pub number_at : List Float → (place : ℕ) → Float
number_at row place = get_or row place binary64.nought
