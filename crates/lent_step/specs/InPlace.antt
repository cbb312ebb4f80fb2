-- What the thin entry answers and leaves: "alters the caller's own machine where it stands and answers the refusal number".
use Rattle.std.specs.Prelude.{◌≡◌, List, ℕ, Float}
use Rattle.theory_machine.specs.Binary64.{binary64}
use Rattle.theory_machine.specs.Issue.{Answer}
use Rattle.theory_machine.specs.Steps.{step}
use Rattle.theory_machine.specs.Asked.{written}
use Rattle.machine_parts.specs.declared.Machine.{Machine}
use Rattle.machine_parts.specs.View.{view, lent}

-- the step's answer on paper
abbrev pub step_answer : (words : List ℕ) (operands : List Float) (m : Machine) (cells : List Float) (code : ℕ) → Answer Float
step_answer words operands m cells code = step binary64 (lent words operands cells) (view m) code

-- number is the refusal that a step of machine m with this code answers; machine m' and the cells cells' are what it leaves.
-- "A refused call returns the machine as given and writes nothing": a refused step on paper is the machine as given, with nothing released
pub record InPlace (words : List ℕ) (operands : List Float) (m : Machine) (cells : List Float) (code : ℕ) (number : ℕ) (m' : Machine) (cells' : List Float) : Type 0 where
  pub answered : number ≡ (step_answer words operands m cells code).refusal
  pub altered : view m' ≡ (step_answer words operands m cells code).machine
  pub after : cells' ≡ written cells (step_answer words operands m cells code).released
