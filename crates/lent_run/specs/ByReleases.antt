-- What only proofs cite: a whole run as the code goes, from release to release (specs/Advance.antt of crate machine_steps), each record stored in the
-- log at its index. That it shows the theory's run (specs/Run.antt): proofs/Answers.antt.
-- 01: "then takes codes until the end or the first refusal"; "The release log is a lent row of records: place, cell, number"; "later records are untouched".
use Rattle.std.specs.Prelude.{ℕ, zero, suc, ◌-◌, Bool, true, false, List, length, set, Float}
use Rattle.machine_parts.specs.declared.Machine.{Machine}
use Rattle.machine_parts.specs.declared.Record.{Record}
use Rattle.machine_steps.specs.Advance.{Progress, Stop, beginning, advanced, cells_after}

-- how far the run came, the result cells and the log
pub record Final : Type 0 where
  pub run : Progress
  pub cells : List Float
  pub log : List Record

abbrev pub pick : Bool → Final → Final → Final
pick true x y = x
pick false x y = y

-- at most k stops: at a release the record is stored and the run goes on
unfoldable pub runs : (k : ℕ) → Progress → (words : List ℕ) (operands cells : List Float) (schedule : List ℕ) (room : ℕ) (log : List Record) → Final
runs zero r words operands cells schedule room log = record { run = r; cells = cells; log = log }
runs (suc k) r words operands cells schedule room log =
    let s : Stop = advanced r words operands cells schedule room in
    let cells' : List Float = cells_after r words operands cells schedule room in
    pick s.released (runs k s.progress words operands cells' schedule room (set log s.index s.made)) (record { run = s.progress; cells = cells'; log = log })

-- what is left of the schedule
abbrev pub left : Progress → (schedule : List ℕ) → ℕ
left r schedule = length schedule - r.place

-- the whole run: a stop for each byte of the schedule, and one more, are enough
abbrev pub run_by_releases : Machine → (words : List ℕ) (operands cells : List Float) (schedule : List ℕ) (log : List Record) → Final
run_by_releases m words operands cells schedule log =
    runs (suc (length schedule)) (beginning m words operands (length cells)) words operands cells schedule (length log) log
