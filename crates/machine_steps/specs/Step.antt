-- What a step answers and leaves.
use Rattle.std.specs.Prelude.{◌≡◌, List, ℕ, Float}
use Rattle.theory_machine.specs.Binary64.{binary64}
use Rattle.theory_machine.specs.Steps.{step}
use Rattle.theory_machine.specs.Asked.{written}
use Rattle.machine_parts.specs.declared.Machine.{Machine}
use Rattle.machine_parts.specs.declared.Stepped.{Stepped}
use Rattle.machine_parts.specs.View.{view, released_by, view_stepped, lent}

-- r is the answer of one step of machine m with this code, and cells' the result cells after it
pub record StepAnswer (words : List ℕ) (operands : List Float) (m : Machine) (cells : List Float) (code : ℕ) (r : Stepped) (cells' : List Float) : Type 0 where
  pub answer : view_stepped r ≡ step binary64 (lent words operands cells) (view m) code
  pub after : cells' ≡ written cells (released_by r.outcome)
