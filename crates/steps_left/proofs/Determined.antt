-- The contract of each public function determines its answer.
use mathlib.Core.Path.{◌≡◌, sym, ap}
use Rattle.numbers.proofs.Determined.{Determines, one_answer}
use Rattle.std.specs.Prelude.{ℕ, Result, Ok, Err}
use Rattle.words.specs.declared.refusal.Refusal.{Refusal}
use Rattle.words.proofs.Refusals.{number_exact, number_real}
use Rattle.theory_machine.specs.Entries as theory
use Rattle.steps_left.specs.Answers.{view_left}
use Rattle.steps_left.proofs.drained.Kinds as drained-kinds
use Rattle.steps_left.proofs.drained.Reads as drained-reads
use Rattle.steps_left.proofs.steps_left.Kinds as steps-left-kinds
use Rattle.steps_left.proofs.steps_left.Reads as steps-left-reads

left_exact : (x y : Result ℕ Refusal) → view_left x ≡ view_left y → x ≡ y
left_exact (Ok n) (Ok m) e = ap (λ (l : theory.StepsLeft). Ok l.left) e
left_exact (Ok n) (Err r) e = absurd (number_real r (sym (ap (λ (l : theory.StepsLeft). l.refusal) e)))
left_exact (Err r) (Ok n) e = absurd (number_real r (ap (λ (l : theory.StepsLeft). l.refusal) e))
left_exact (Err r) (Err s) e = ap Err (number_exact r s (ap (λ (l : theory.StepsLeft). l.refusal) e))

pub drained_determined : Determines 1 drained-kinds.ps drained-kinds.r drained-reads.Post
drained_determined κs a x y s t = one_answer

pub steps_left_determined : Determines 3 steps-left-kinds.ps steps-left-kinds.r steps-left-reads.Post
steps_left_determined κs a x y s t p q = left_exact x y (one_answer p q)
