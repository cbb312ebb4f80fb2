-- What a run of a schedule answers and leaves: the theory's run, `run` of crate theory_run, of the declared types.
use Rattle.std.specs.Prelude.{◌≡◌, false, List, map, ℕ, Float, length}
use Rattle.theory_machine.specs.Binary64.{binary64}
use Rattle.theory_run.specs.Run.{ScheduleRun, run, logged_over}
use Rattle.machine_parts.specs.declared.Machine.{Machine}
use Rattle.machine_parts.specs.declared.Record.{Record}
use Rattle.machine_parts.specs.View.{view, view_record, lent}
use Rattle.machine_steps.specs.Advance.{Progress}

-- a log by value: the report's, "The log has 2,048 records."
abbrev pub log_room : ℕ
log_room = 2048

-- r shows the run w, and cells' and log' are what w leaves of the result cells and of the log that was given.
-- 01: "Answer: steps done, byte place of the refused code (or the length), refusal, records written"; "later records are untouched"
pub record Shows (w : ScheduleRun Float) (given : List Record) (r : Progress) (cells' : List Float) (log' : List Record) : Type 0 where
  pub machine : view r.machine ≡ w.state.machine
  pub steps : r.steps ≡ w.steps
  pub place : r.place ≡ w.place
  pub refusal : r.refusal ≡ w.refusal
  pub records : r.records ≡ length w.state.log
  pub over : r.going ≡ false
  pub cells : cells' ≡ w.state.cells
  pub log : map view_record log' ≡ logged_over w.state.log (map view_record given)

-- r is the answer of a run of machine m, cells' and log' the result cells and the lent log after it
abbrev pub RunAnswer : (words : List ℕ) (operands : List Float) (m : Machine) (cells : List Float) (schedule : List ℕ) (log : List Record) (r : Progress) (cells' : List Float) (log' : List Record) → Type 0
RunAnswer words operands m cells schedule log r cells' log' =
    Shows (run binary64 (lent words operands cells) (length log) schedule (view m) cells) log r cells' log'
