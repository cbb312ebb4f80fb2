-- The contract of each public function determines its answer and what is lent to it.
use mathlib.Core.Path.{◌≡◌}
use mathlib.Core.List.{List}
use Prim.Native.Nat.{ℕ}
use lib.Ieee.{Float}
use Rattle.numbers.proofs.Determined.{DeterminesLent, one_answer}
use Rattle.machine_parts.specs.declared.Machine.{Machine}
use Rattle.machine_parts.specs.declared.Record.{Record}
use Rattle.machine_parts.proofs.Exact.{view_exact, records_exact}
use Rattle.words.proofs.Refusals.{answer_exact}
use Rattle.machine_steps.specs.declared.advance.Progress as code
use Rattle.machine_steps.specs.Advance.{view_progress}
use Rattle.lent_run.specs.Run.{RunAnswer}
use Rattle.lent_run.proofs.run.run_logged.Kinds as run-logged-kinds
use Rattle.lent_run.proofs.run.run_logged.Reads as run-logged-reads

-- of `run_schedule`, whose contract is this record: the answer, the cells and the log as it returns
pub run_schedule_determined : (words : List ℕ) (operands : List Float) (m : Machine) (cells : List Float) (schedule : List ℕ) (log : List Record) (x y : code.Progress) (cells₁ cells₂ : List Float) (log₁ log₂ : List Record)
    → RunAnswer words operands m cells schedule log (view_progress x) cells₁ log₁ → RunAnswer words operands m cells schedule log (view_progress y) cells₂ log₂ → (x ≡ y) × (cells₁ ≡ cells₂) × (log₁ ≡ log₂)
run_schedule_determined words operands m cells schedule log x y cells₁ cells₂ log₁ log₂ p q =
    let machine = view_exact x.machine y.machine (one_answer p.machine q.machine) in
    let steps = one_answer p.steps q.steps in
    let place = one_answer p.place q.place in
    let refusal = answer_exact x.outcome y.outcome (one_answer p.refusal q.refusal) in
    let records = one_answer p.records q.records in
    let over = one_answer p.over q.over in (
      λ i. record { machine = machine i; steps = steps i; place = place i; outcome = refusal i; records = records i; going = over i },
      one_answer p.cells q.cells,
      records_exact log₁ log₂ (one_answer p.log q.log),
    )

pub run_logged_determined : DeterminesLent 4 run-logged-kinds.ps run-logged-kinds.r run-logged-reads.Post (λ κs s. s.1.1.1.0.now)
run_logged_determined κs a x y s t p q =
    let e = run_schedule_determined a.1.0.now a.1.1.0.now a.0 a.1.1.1.0.now a.1.1.1.1.0.now a.1.1.1.1.1.0 x.run y.run _ _ x.log y.log p q in
    ((λ i. record { run = e.0 i; log = e.2 i }), e.1)
