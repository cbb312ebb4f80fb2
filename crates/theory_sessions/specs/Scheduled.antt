-- The run of a schedule as a row of the table: what is run, and what is seen of it.
use Rattle.std.specs.Prelude.{List, ℕ, length, Float}
use Rattle.theory_machine.specs.Machine.{Lent, Operand, Machine, Record}
use Rattle.theory_machine.specs.Entries.{steps_left}
use Rattle.theory_machine.specs.Binary64.{binary64}
use Rattle.theory_run.specs.Run.{run}

-- the list, the operand cells, the machine, the result cells at the start, how many records the log has room for, and the schedule's bytes
pub record Scheduled : Type 0 where
  pub words : List ℕ
  pub operands : List Float
  pub machine : Machine Float
  pub cells : List Float
  pub room : ℕ
  pub schedule : List ℕ

-- "Answer: steps done, byte place of the refused code (or the length), refusal, records written"; then registers, cells and records, and how
-- many steps are left
pub record RanSeen : Type 0 where
  pub steps : ℕ
  pub place : ℕ
  pub refusal : ℕ
  pub registers : List (Operand Float)
  pub cells : List Float
  pub records : List (Record Float)
  pub left : ℕ

abbrev pub ran_seen : Scheduled → RanSeen
ran_seen x =
    let L : Lent Float = record { words = x.words; operands = x.operands; results = length x.cells } in
    let r = run binary64 L x.room x.schedule x.machine x.cells in
    record {
      steps = r.steps;
      place = r.place;
      refusal = r.refusal;
      registers = r.state.machine.registers;
      cells = r.state.cells;
      records = r.state.log;
      left = (steps_left binary64 L r.state.machine).left;
    }
