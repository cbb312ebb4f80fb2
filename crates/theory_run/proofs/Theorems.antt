-- What is proved of runs: the statements stand in specs/Theorem.antt.
use mathlib.Core.Path.{◌≡◌, refl, sym, subst}
use mathlib.Core.List.{List, []}
use Prim.Native.Nat.{ℕ, ◌≤◌}
use native.Mathlib.Omega.{arith}
use lib.Dec.{eqb}
use lib.ListN.{length}
use borrow.Author.Tests.{eq-eqb, ne_eqb}
use Rattle.theory_machine.specs.Machine.{Kind, Lent, areas_of, Machine}
use Rattle.theory_machine.specs.Entries.{list_refusal, refusal_of_entry, fresh}
use Rattle.theory_machine.specs.Asked.{State, asked, taken_of, begin}
use Rattle.theory_machine.specs.Statement.{Outcome}
use Rattle.theory_machine.proofs.Rows.{cond_cases}
use Rattle.theory_machine.proofs.Checks.{by_list, by_order, both_pass}
use Rattle.theory_machine.proofs.Theorems.{order_theorem}
use Rattle.theory_run.specs.Run.{ScheduleRun, run}
use Rattle.theory_run.specs.Theorem.{first_codes, place_after, IsAsked, RunIsAsked, RunStopsForCause, RefusedRuns, DemandThreeOfRuns}
use Rattle.theory_run.proofs.Going.{Gone, gone, caused}

module _ (K : Kind) (L : Lent K.Num) (room : ℕ) (schedule : List ℕ) where
  abbrev start : Machine K.Num → (cells : List K.Num) → State K.Num
  start m cells = record { machine = m; cells = cells; log = [] }

  not_begun_lem : (m : Machine K.Num) (cells : List K.Num) (n : ℕ)
      → IsAsked K L room schedule (start m cells) (record { state = start m cells; steps = 0; place = 0; refusal = n })
  not_begun_lem m cells n = record { same = refl; each = refl; taken = refl; placed = refl; log_fits = omega arith }

  -- the codes taken are as many as the steps
  begun : (s : State K.Num) (r : ScheduleRun K.Num) → length s.log ≤ room → Gone K L room schedule s 0 0 r → IsAsked K L room schedule s r
  begun s r h g =
      let e : g.count ≡ r.steps = omega (arith, g.steps_are) in
      record {
        same = subst (λ (n : ℕ). r.state ≡ asked K L s (first_codes schedule n 0)) e g.same;
        each = subst (λ (n : ℕ). length (first_codes schedule n 0) ≡ n) e g.each;
        taken = subst (λ (n : ℕ). taken_of K L s (first_codes schedule n 0) ≡ n) e g.taken;
        placed = subst (λ (n : ℕ). r.place ≡ place_after schedule n 0) e g.placed;
        log_fits = g.log_fits h;
      }

  -- THEOREMS

  pub refused_runs : (m : Machine K.Num) (cells : List K.Num) → RefusedRuns K L room schedule m cells
  unfolding run
  refused_runs m cells = record {
    of_list = λ z. let e = by_list K L.words (areas_of L) m z in rw (e, ne_eqb (list_refusal K L) 0 z) refl;
    of_machine = λ z o. rw (by_order K L.words (areas_of L) m z o) refl;
  }

  pub run_is_asked : RunIsAsked K L room schedule
  unfolding run
  run_is_asked m cells =
      let Is : ScheduleRun K.Num → Type 0 = IsAsked K L room schedule (start m cells) in
      cond_cases Is (eqb (refusal_of_entry K L m) 0)
      (λ _. begun (start m cells) _ (omega arith) (gone K L room schedule _ (start m cells) 0 0))
      (λ _. not_begun_lem m cells (refusal_of_entry K L m))

  pub run_stops_for_cause : RunStopsForCause K L room schedule
  unfolding run
  run_stops_for_cause z m o cells =
      rw (eq-eqb (refusal_of_entry K L m) 0 (both_pass K L.words (areas_of L) m z o)) (caused K L room schedule _ (start m cells) 0 0 (omega arith) (omega arith))

-- demand 3
pub demand_three_of_runs : DemandThreeOfRuns
demand_three_of_runs K L room schedule start z four lent =
    let r : ScheduleRun K.Num = run K L room schedule (fresh K L start.registers).machine start.cells in
    let a : IsAsked K L room schedule (begin K L start) r = run_is_asked K L room schedule (fresh K L start.registers).machine start.cells in
    subst (λ (s : State K.Num). Outcome K L start s r.steps) (sym a.same)
    (subst (λ (k : ℕ). Outcome K L start (asked K L (begin K L start) (first_codes schedule r.steps 0)) k) a.taken
    (order_theorem K L start z four lent (first_codes schedule r.steps 0)))
