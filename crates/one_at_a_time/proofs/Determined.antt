-- The contract of each public function determines its answer and what is lent to it.
use mathlib.Core.Path.{◌≡◌, ap}
use mathlib.Core.List.{List}
use lib.Ieee.{Float}
use Rattle.numbers.proofs.Determined.{DeterminesLent, one_answer}
use Rattle.words.proofs.Refusals.{answer_exact}
use Rattle.theory_machine.specs.Entries as theory
use Rattle.one_at_a_time.specs.declared.OneAtATime.{OneAtATime}
use Rattle.one_at_a_time.specs.Answers.{view_one_at_a_time}
use Rattle.one_at_a_time.proofs.one_at_a_time.Kinds as one-at-a-time-kinds
use Rattle.one_at_a_time.proofs.one_at_a_time.Reads as one-at-a-time-reads

told_exact : (x y : OneAtATime) (cells others : List Float) → view_one_at_a_time x cells ≡ view_one_at_a_time y others → (x ≡ y) × (cells ≡ others)
told_exact x y cells others e =
    let o = answer_exact x.outcome y.outcome (ap (λ (r : theory.OneAtATime Float). r.refusal) e) in
    (λ i. record { registers = (e i).run.registers; outcome = o i }, ap (λ (r : theory.OneAtATime Float). r.run.cells) e)

pub one_at_a_time_determined : DeterminesLent 3 one-at-a-time-kinds.ps one-at-a-time-kinds.r one-at-a-time-reads.Post (λ κs s. s.1.1.0.now)
one_at_a_time_determined κs a x y s t p q = told_exact x y s.1.1.0.now t.1.1.0.now (one_answer p q)
