-- What `step` answers by value is what the thin entry answers and leaves; a refused one leaves all as found.
use mathlib.Core.Path.{◌≡◌, ap, ◌∙◌}
use mathlib.Core.Logic.{◌≢◌}
use mathlib.Core.List.{List}
use Prim.Native.Nat.{ℕ}
use lib.Ieee.{Float}
use Rattle.words.specs.Refusals.{answer_number}
use Rattle.theory_machine.specs.Issue.{Answer}
use Rattle.theory_machine.specs.Asked.{written}
use Rattle.theory_machine.specs.Binary64.{binary64}
use Rattle.theory_machine.proofs.Theorems.{refused_changes_nothing}
use Rattle.machine_parts.specs.declared.Machine.{Machine}
use Rattle.machine_parts.specs.declared.Stepped.{Stepped}
use Rattle.machine_parts.specs.View.{view, lent}
use Rattle.machine_parts.proofs.Exact.{view_exact}
use Rattle.machine_steps.specs.Step.{StepAnswer}
use Rattle.lent_step.specs.InPlace.{InPlace}

pub placed : (words : List ℕ) (operands : List Float) (m : Machine) (cells : List Float) (code : ℕ) (r : Stepped) (cells' : List Float) → StepAnswer words operands m cells code r cells'
    → InPlace words operands m cells code (answer_number r.outcome) r.machine cells'
placed words operands m cells code r cells' s = record {
  answered = ap (λ (a : Answer Float). a.refusal) s.answer;
  altered = ap (λ (a : Answer Float). a.machine) s.answer;
  after = s.after ∙ ap (λ (a : Answer Float). written cells a.released) s.answer;
}

-- "A refused call returns the machine as given and writes nothing"
pub refused_as_found : (words : List ℕ) (operands : List Float) (m : Machine) (cells : List Float) (code number : ℕ) (m' : Machine) (cells' : List Float) → InPlace words operands m cells code number m' cells'
    → number ≢ 0 → (m' ≡ m) × (cells' ≡ cells)
refused_as_found words operands m cells code number m' cells' s refuses =
    let e = refused_changes_nothing binary64 (lent words operands cells) (view m) code (λ z. refuses (s.answered ∙ z)) in
    (view_exact m' m (s.altered ∙ e.0), s.after ∙ ap (written cells) e.1)
