-- What is told of a run: its answer and its log, as the run of the theory has them.
use mathlib.Core.Path.{◌≡◌, refl, ap, ◌∙◌, subst}
use mathlib.Core.List.{List, [], ◌∷◌, map}
use Prim.Native.Nat.{ℕ, zero, suc}
use lib.Ieee.{Float}
use lib.ListN.{length, take, drop, replicate}
use lib.Seq.{take-append_seam}
use Rattle.std.specs.Prelude.{Result, Ok, Err}
use Rattle.std.specs.Result.{result_unwrap_or}
use Rattle.words.specs.Instructions.{cell_limit}
use Rattle.words.specs.declared.refusal.Refusal.{Refusal}
use Rattle.steps_left.specs.Answers.{view_left}
use Rattle.theory_machine.specs.Machine as theory
use Rattle.theory_machine.specs.Machine.{Lent}
use Rattle.theory_machine.specs.Entries.{StepsLeft, steps_left}
use Rattle.theory_machine.specs.Binary64.{binary64}
use Rattle.theory_run.specs.Run.{ScheduleRun, run}
use Rattle.machine_parts.specs.declared.Machine.{Machine}
use Rattle.machine_parts.specs.declared.Record.{Record}
use Rattle.machine_parts.specs.View.{view, view_record, lent}
use Rattle.machine_steps.specs.Advance.{Progress}
use Rattle.lent_run.specs.Run.{Shows, RunAnswer}
use Rattle.theory_report.specs.Report.{page_text, ran_text, nought, start_of, run_of, log_room}
use Rattle.printing.specs.Put.{PutIn}
use Rattle.report_text.specs.Put.{page_room}
use Rattle.report_text.specs.Files.{report_lent}

-- "Steps left gives 0 when refused"
still : (left : Result ℕ Refusal) {l : StepsLeft} → view_left left ≡ l → result_unwrap_or left 0 ≡ l.left
still (Ok n) e = ap (λ (l : StepsLeft). l.left) e
still (Err r) e = ap (λ (l : StepsLeft). l.left) e

map-take : (n : ℕ) (log : List Record) → map view_record (take n log) ≡ take n (map view_record log)
map-take zero log = refl
map-take (suc n) [] = refl
map-take (suc n) (r ∷ log) = ap (λ (l : List _). view_record r ∷ l) (map-take n log)

-- a text by what is told in it
same_text : (L : Lent Float) {steps steps' refusal refusal' place place' : ℕ} {m m' : theory.Machine Float} {log log' : List (theory.Record Float)}
    → steps ≡ steps' → refusal ≡ refusal' → place ≡ place' → m ≡ m' → log ≡ log'
    → page_text steps refusal place (steps_left binary64 L m).left m.registers log ≡ page_text steps' refusal' place' (steps_left binary64 L m').left m'.registers log'
same_text L a b c d e = rw (a, b, c, d, e)

-- a run from the start of a report
same-run : (L : Lent Float) (schedule : List ℕ) {m : theory.Machine Float} {room : ℕ} → m ≡ start_of L → room ≡ log_room
    → run binary64 L room schedule m (replicate cell_limit nought) ≡ run_of L schedule
unfolding run_of
same-run L schedule e n = rw (e, n)

module _ (words : List ℕ) (operands : List Float) (schedule : List ℕ) (m : Machine) {given log : List Record} {r : Progress} {cells : List Float}
    (begins : view m ≡ start_of (report_lent words operands)) (n : length given ≡ log_room)
    (is : RunAnswer words operands m (replicate cell_limit nought) schedule given r cells log) where
  abbrev w : ScheduleRun Float
  w = run_of (report_lent words operands) schedule

  shown : Shows w given r cells log
  shown = subst (λ (w : ScheduleRun Float). Shows w given r cells log) (same-run (report_lent words operands) schedule begins n) is

  -- the records at the log's front are those of the run
  front-records : map view_record (take r.records log) ≡ w.state.log
  front-records =
      map-take r.records log
      ∙ rw (shown.log, shown.records) (take-append_seam w.state.log (drop (length w.state.log) (map view_record given)))

  pub told : {before after : List ℕ} {end : ℕ} → length cells ≡ cell_limit
      → (left : Result ℕ Refusal) → view_left left ≡ steps_left binary64 (lent words operands cells) (view r.machine)
      → PutIn page_room before after 0 end (page_text r.steps r.refusal r.place (result_unwrap_or left 0) (view r.machine).registers (map view_record (take r.records log)))
      → PutIn page_room before after 0 end (ran_text (report_lent words operands) w)
  told {before} {after} {end} k left l p =
      let e = still left l in
      subst (PutIn page_room before after 0 end)
      (same_text (lent words operands cells) shown.steps shown.refusal shown.place shown.machine front-records
      ∙ ap (λ (size : ℕ). ran_text (record { words = words; operands = operands; results = size }) w) k)
      (rw e at p)
