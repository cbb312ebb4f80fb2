-- The contract of each public function determines its answer and what is lent to it.
use mathlib.Core.Path.{◌≡◌, refl, sym, ap, ◌∙◌}
use lib.Ieee.{Float}
use Rattle.numbers.proofs.Determined.{Determines, DeterminesLent, one_answer}
use Rattle.theory_machine.specs.Entries as theory
use mathlib.Core.Bool.{true≢false}
use mathlib.Core.List.{List}
use Prim.Native.Nat.{ℕ}
use Rattle.std.specs.Prelude as given
use Rattle.std.specs.Prelude.{Some, None, Result, Ok, Err}
use Rattle.words.specs.declared.refusal.Refusal.{Refusal}
use Rattle.words.proofs.Refusals.{number_exact, number_real, answer_exact}
use Rattle.machine_steps.specs.declared.advance.Progress.{Progress}
use Rattle.machine_steps.specs.declared.advance.Entry.{Entry}
use Rattle.machine_steps.specs.Advance as view
use Rattle.machine_steps.specs.Advance.{view_progress, view_stop}
use Rattle.machine_parts.specs.declared.Stepped.{Stepped}
use Rattle.machine_parts.specs.View.{released_by, view_stepped}
use Rattle.machine_steps.specs.Lowest.{view_lowest, view_lowest_step}
use Rattle.theory_machine.specs.Issue.{Answer}
use Rattle.theory_machine.specs.Asked.{written}
use Rattle.machine_parts.proofs.Exact.{view_exact}
use Rattle.machine_take.proofs.Determined.{outcome_exact}
use Rattle.machine_steps.proofs.lowest.lowest_step.Kinds as lowest-step-kinds
use Rattle.machine_steps.proofs.lowest.lowest_step.Reads as lowest-step-reads
use Rattle.machine_steps.proofs.step.step.Kinds as step-kinds
use Rattle.machine_steps.proofs.step.step.Reads as step-reads
use Rattle.machine_steps.proofs.advance.begun.Kinds as begun-kinds
use Rattle.machine_steps.proofs.advance.begun.Reads as begun-reads
use Rattle.machine_steps.proofs.advance.Progress.advance.Kinds as advance-kinds
use Rattle.machine_steps.proofs.advance.Progress.advance.Reads as advance-reads

code_exact : (x y : given.Option ℕ) → view_lowest x ≡ view_lowest y → x ≡ y
code_exact None None e = refl
code_exact None (Some c) e = cc
code_exact (Some c) None e = cc
code_exact (Some c) (Some d) e = cc

-- the views tell the answers apart
stepped_exact : (x y : Stepped) → view_stepped x ≡ view_stepped y → x ≡ y
stepped_exact x y e =
    let m = view_exact x.machine y.machine (ap (λ (a : Answer Float). a.machine) e) in
    let o = outcome_exact x.outcome y.outcome (ap (λ (a : Answer Float). a.refusal) e) (ap (λ (a : Answer Float). a.released) e) in
    λ i. record { machine = m i; outcome = o i }

lowest_exact : (x y : Result (given.Option ℕ) Refusal) → view_lowest_step x ≡ view_lowest_step y → x ≡ y
lowest_exact (Ok c) (Ok d) e = ap Ok (code_exact c d (ap (λ (l : theory.LowestStep). l.code) e))
lowest_exact (Ok c) (Err s) e = absurd (number_real s (sym (ap (λ (l : theory.LowestStep). l.refusal) e)))
lowest_exact (Err r) (Ok d) e = absurd (number_real r (ap (λ (l : theory.LowestStep). l.refusal) e))
lowest_exact (Err r) (Err s) e = ap Err (number_exact r s (ap (λ (l : theory.LowestStep). l.refusal) e))

progress_exact : (x y : Progress) → view_progress x ≡ view_progress y → x ≡ y
progress_exact x y e =
    let o = answer_exact x.outcome y.outcome (ap (λ (p : view.Progress). p.refusal) e) in
    λ i. record { machine = (e i).machine; steps = (e i).steps; place = (e i).place; outcome = o i; records = (e i).records; going = (e i).going }

stop_exact : (x y : Progress) (a b : given.Option Entry) → view_stop x a ≡ view_stop y b → (x ≡ y) × (a ≡ b)
stop_exact x y a b e = (progress_exact x y (sym (stands x a) ∙ ap (λ (s : view.Stop). s.progress) e ∙ stands y b), entries a b e)
  where
    stands : (z : Progress) (d : given.Option Entry) → (view_stop z d).progress ≡ view_progress z
    stands z None = refl
    stands z (Some f) = refl

    entries : (a b : given.Option Entry) → view_stop x a ≡ view_stop y b → a ≡ b
    entries None None e = refl
    entries None (Some f) e = absurd (true≢false (sym (ap (λ (s : view.Stop). s.released) e)))
    entries (Some d) None e = absurd (true≢false (ap (λ (s : view.Stop). s.released) e))
    entries (Some d) (Some f) e = λ i. Some (record { index = (e i).index; made = (e i).made })

pub lowest_step_determined : Determines 3 lowest-step-kinds.ps lowest-step-kinds.r lowest-step-reads.Post
lowest_step_determined κs a x y s t p q = lowest_exact x y (one_answer p q)

-- the machine, the refusal, what was released, and the result cells
pub step_determined : DeterminesLent 3 step-kinds.ps step-kinds.r step-reads.Post (λ κs s. s.1.1.1.0.now)
step_determined κs a x y s t p q =
    let e : x ≡ y = stepped_exact x y (one_answer p.answer q.answer) in
    (e, p.after ∙ ap (λ (r : Stepped). written a.1.1.1.0.now (released_by r.outcome)) e ∙ sym q.after)

pub begun_determined : Determines 2 begun-kinds.ps begun-kinds.r begun-reads.Post
begun_determined κs a x y s t p q = progress_exact x y (one_answer p q)

-- the record that was released, the progress and the result cells
pub advance_determined : DeterminesLent 5 advance-kinds.ps advance-kinds.r advance-reads.Post {B = Progress × List Float} (λ κs s. (s.0.now, s.1.1.1.0.now))
advance_determined κs a x y s t p q =
    let e = stop_exact s.0.now t.0.now x y (one_answer p.0 q.0) in
    let cells = one_answer p.1 q.1 in
    (e.1, λ i. (e.0 i, cells i))
