-- The answer of a count as that of crate theory_machine: "Steps left gives 0 when refused".
use Rattle.std.specs.Prelude.{ℕ, Result, Ok, Err}
use Rattle.words.specs.declared.refusal.Refusal.{Refusal}
use Rattle.words.specs.Refusals.{number}
use Rattle.theory_machine.specs.Entries as theory

abbrev pub view_left : Result ℕ Refusal → theory.StepsLeft
view_left (Ok left) = record { refusal = 0; left = left }
view_left (Err r) = record { refusal = number r; left = 0 }
