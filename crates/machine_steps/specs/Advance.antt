-- A run from release to release, of the declared types: where it begins, where it stops next, and the result cells then. (The run as a whole:
-- specs/Run.antt of crate theory_run; that each stop is one of it: proofs/Segments.antt.)
use Rattle.std.specs.Prelude as declared
use Rattle.std.specs.Prelude.{Some, None, Bool, true, false, cond, not, List, ℕ, ◌+◌, ltb, eqb, Float, length}
use Rattle.std.proofs.Math.Option.{Option, none, some}
use Rattle.theory_machine.specs.Machine as theory
use Rattle.theory_machine.specs.Binary64.{binary64}
use Rattle.theory_machine.specs.Entries.{refusal_of_entry}
use Rattle.theory_machine.specs.Asked.{written}
use Rattle.machine_parts.specs.declared.Machine.{Machine}
use Rattle.machine_parts.specs.declared.Record.{Record}
use Rattle.machine_parts.specs.View.{view, lent_with}
use Rattle.machine_parts.specs.Back.{machine_of, record_of}
use Rattle.words.specs.Refusals.{answer_number}
use Rattle.machine_steps.specs.declared.advance.Progress as code
use Rattle.machine_steps.specs.declared.advance.Entry.{Entry}
use Rattle.machine_take.specs.Taking.{Taken, take_from}

-- how far a run has come, and its answer: machine, steps done, byte place of the refused code (or the length), refusal, records written
pub record Progress : Type 0 where
  pub machine : Machine
  pub steps : ℕ
  pub place : ℕ
  pub refusal : ℕ
  pub records : ℕ
  pub going : Bool

abbrev pub view_progress : code.Progress → Progress
view_progress p = record {
  machine = p.machine;
  steps = p.steps;
  place = p.place;
  refusal = answer_number p.outcome;
  records = p.records;
  going = p.going;
}

-- where a run stops: at a release, with the record and the index of the log that it goes to, or for good
pub record Stop : Type 0 where
  pub progress : Progress
  pub made : Record
  pub index : ℕ
  pub released : Bool

-- "A run checks the list, then 6"
abbrev pub run_refusal : Machine → (words : List ℕ) (operands : List Float) (results : ℕ) → ℕ
run_refusal m words operands results = refusal_of_entry binary64 (lent_with words operands results) (view m)

-- "If the list or machine is refused, the answer shows 0 steps, byte place 0 and 0 records."
unfoldable pub beginning : Machine → (words : List ℕ) (operands : List Float) (results : ℕ) → Progress
beginning m words operands results = record {
  machine = m;
  steps = 0;
  place = 0;
  refusal = run_refusal m words operands results;
  records = 0;
  going = eqb (run_refusal m words operands results) 0;
}

abbrev pub blank : Record
blank = record { place = 0; cell = 0; number = binary64.nought }

-- a run that is over
abbrev pub stays : Progress → Stop
stays p = record { progress = p; made = blank; index = p.records; released = false }

-- the progress after a stop, with what was released, if anything
abbrev pub view_stop : code.Progress → declared.Option Entry → Stop
view_stop p None = stays (view_progress p)
view_stop p (Some e) = record { progress = view_progress p; made = e.made; index = e.index; released = true }

-- what codes taken come to: over, or at a release
abbrev pub stop_of : Progress → Taken → Option (theory.Record Float) → Stop
stop_of p t none =
    stays (record { machine = machine_of t.machine; steps = t.steps; place = t.place; refusal = t.refusal; records = p.records; going = false })
stop_of p t (some r) = record {
  progress = record { machine = machine_of t.machine; steps = t.steps; place = t.place; refusal = t.refusal; records = p.records + 1; going = true };
  made = record_of r;
  index = p.records;
  released = true;
}

module _ (p : Progress) (words : List ℕ) (operands cells : List Float) (schedule : List ℕ) (room : ℕ) where
  abbrev pub taken_on : Taken
  taken_on = take_from (lent_with words operands (length cells)) (ltb p.records room) schedule (length schedule) (view p.machine) p.steps p.place

  -- a run that goes on; with fewer bytes than steps it is none, since each step has taken a byte or more, and nothing is done
  abbrev pub goes : Bool
  goes = cond p.going (not (ltb p.place p.steps)) false

  unfoldable pub advanced : Stop
  advanced = cond goes (stop_of p taken_on taken_on.released) (stays p)

  unfoldable pub cells_after : List Float
  cells_after = cond goes (written cells taken_on.released) cells
