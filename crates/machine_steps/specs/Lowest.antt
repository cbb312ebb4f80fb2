-- The answer of the lowest step as that of crate theory_machine: 01's values for each case. Refused, there is none.
use Rattle.std.proofs.Math.Option as theirs
use Rattle.std.proofs.Math.Option.{none, some}
use Rattle.std.specs.Prelude.{ℕ, Option, Some, None, Result, Ok, Err}
use Rattle.words.specs.declared.refusal.Refusal.{Refusal}
use Rattle.words.specs.Refusals.{number}
use Rattle.theory_machine.specs.Entries as theory

abbrev pub view_lowest : Option ℕ → theirs.Option ℕ
view_lowest None = none
view_lowest (Some c) = some c

abbrev pub view_lowest_step : Result (Option ℕ) Refusal → theory.LowestStep
view_lowest_step (Ok code) = record { refusal = 0; code = view_lowest code }
view_lowest_step (Err r) = record { refusal = number r; code = none }
