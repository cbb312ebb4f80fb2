-- Document 01, "Refusal numbers": the number of each refusal, and of an answer that may be one. 0 is accepted.
use Rattle.std.specs.Prelude.{ℕ, Result, Ok, Err}
use Rattle.words.specs.declared.refusal.Refusal.{Refusal}
use Rattle.words.specs.declared.refusal.Refusal.TheVariants.{List, Operation, Register, Cell, Code, Order, NotNow, Cut, Number, Left, Room}
use Rattle.words.specs.declared.refusal.Refused.{Refused}
use Rattle.words.specs.Check.{Verdict}

abbrev pub number : Refusal → ℕ
number List = 1
number Operation = 2
number Register = 3
number Cell = 4
number Code = 5
number Order = 6
number NotNow = 7
number Cut = 8
number Number = 9
number Left = 10
number Room = 11

-- "0 means accepted."
abbrev pub answer_number : {A : Type 0} → Result A Refusal → ℕ
answer_number (Ok a) = 0
answer_number (Err r) = number r

abbrev pub verdict : Result ℕ Refused → Verdict
verdict (Ok place) = record { refusal = 0; place = place }
verdict (Err r) = record { refusal = number r.refusal; place = r.place }

abbrev pub placed : Result Unit Refusal → (place : ℕ) → Result Unit Refused
placed (Ok u) place = Ok u
placed (Err r) place = Err (record { refusal = r; place = place })
