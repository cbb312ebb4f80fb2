-- The contract of each public function determines its answer and what is lent to it.
use mathlib.Core.Path.{◌≡◌}
use mathlib.Core.List.{List}
use Prim.Native.Nat.{ℕ}
use lib.Ieee.{Float}
use Rattle.numbers.proofs.Determined.{DeterminesLent, one_answer}
use Rattle.machine_parts.specs.declared.Machine.{Machine}
use Rattle.machine_parts.proofs.Exact.{view_exact}
use Rattle.words.specs.Refusals.{answer_number}
use Rattle.words.proofs.Refusals.{answer_exact}
use Rattle.lent_step.specs.InPlace.{InPlace}
use Rattle.lent_step.proofs.step_by_place.Kinds as step-by-place-kinds
use Rattle.lent_step.proofs.step_by_place.Reads as step-by-place-reads

-- of `step_in_place`, whose contract is this record: the number answered, the machine and the cells as it returns
pub step_in_place_determined : (words : List ℕ) (operands : List Float) (m : Machine) (cells : List Float) (code : ℕ) (x y : ℕ) (m₁ m₂ : Machine) (cells₁ cells₂ : List Float)
    → InPlace words operands m cells code x m₁ cells₁ → InPlace words operands m cells code y m₂ cells₂ → (x ≡ y) × (m₁ ≡ m₂) × (cells₁ ≡ cells₂)
step_in_place_determined words operands m cells code x y m₁ m₂ cells₁ cells₂ p q =
    (one_answer p.answered q.answered, view_exact m₁ m₂ (one_answer p.altered q.altered), one_answer p.after q.after)

pub step_by_place_determined : DeterminesLent 3 step-by-place-kinds.ps step-by-place-kinds.r step-by-place-reads.Post (λ κs s. s.1.1.1.0.now)
step_by_place_determined κs a x y s t p q =
    let e = step_in_place_determined _ _ _ _ _ (answer_number x.outcome) (answer_number y.outcome) x.machine y.machine _ _ p q in
    let o = answer_exact x.outcome y.outcome e.0 in
    ((λ i. record { machine = e.1 i; outcome = o i }), e.2)
