-- A code is permitted where its step, tried alone, is taken.
use mathlib.Core.Path.{◌≡◌, refl, ap, ◌∙◌}
use mathlib.Core.Bool.{Bool, true}
use mathlib.Core.List.{List, [], ◌∷◌}
use Prim.Native.Nat.{ℕ, ◌<◌}
use lib.Dec.{eqb}
use lib.Ieee.{Float}
use Rattle.words.specs.Refusals.{answer_number}
use Rattle.theory_machine.specs.Rows.{first}
use Rattle.theory_machine.specs.Codes.{code_limit}
use Rattle.theory_machine.specs.Issue.{is_taken}
use Rattle.theory_machine.specs.Binary64.{binary64}
use Rattle.theory_machine.specs.Steps.{perform}
use Rattle.theory_machine.specs.Entries.{lowest_permitted}
use Rattle.machine_parts.specs.declared.Machine.{Machine}
use Rattle.machine_parts.specs.View.{view, lent_with}
use Rattle.machine_take.specs.Taking.{Taken, view_taken, take_from}
use Rattle.machine_take.specs.declared.taking.Taken as declared
use Rattle.machine_steps.proofs.Stepping.{one_step}

-- whether a code is permitted
abbrev pub permits : Machine → List ℕ → List Float → (results code : ℕ) → Bool
permits m words operands results code = is_taken (perform binary64 (lent_with words operands results) (view m) code)

pub lowest_is : (m : Machine) (words : List ℕ) (operands : List Float) (results : ℕ)
    → lowest_permitted binary64 (lent_with words operands results) (view m) ≡ first (permits m words operands results) 0 code_limit
unfolding lowest_permitted
lowest_is m words operands results = refl

-- the refusal of its one byte says it
pub permitted : (t : declared.Taken) (m : Machine) (words : List ℕ) (operands : List Float) (results code : ℕ) → code < 128
    → view_taken t ≡ take_from (lent_with words operands results) true (code ∷ []) 1 (view m) 0 0 → eqb (answer_number t.outcome) 0 ≡ permits m words operands results code
permitted t m words operands results code h e =
    ap (λ (n : ℕ). eqb n 0) (ap (λ (t : Taken). t.refusal) e ∙ (one_step (lent_with words operands results) (view m) code h).refusal)
