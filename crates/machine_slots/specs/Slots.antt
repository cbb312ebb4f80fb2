-- What only the code's contracts cite: one code of the theory's definitions, as the functions of this crate see it.
use Rattle.std.specs.Prelude.{◌≡◌, ℕ, ◌<◌, Option, Some, None, IfSome}
use Rattle.theory_machine.specs.Tags.{buffer_count, station_count, store_count}
use Rattle.theory_machine.specs.Codes as codes
use Rattle.theory_machine.specs.Codes.{step_of}
use Rattle.machine_slots.specs.declared.code.Step.{Step}
use Rattle.machine_slots.specs.declared.code.Step.TheVariants.{Issue, Arrival, Completion, BufferGrant, StationGrant, Release}

-- A CODE, READ
abbrev pub view_step : Step → codes.Step
view_step Issue = codes.issue
view_step (Arrival i) = codes.arrival i
view_step (Completion i) = codes.completion i
view_step (BufferGrant i) = codes.buffer_grant i
view_step (StationGrant i) = codes.station_grant i
view_step (Release i) = codes.release i

abbrev pub view_read : Option Step → codes.Step
view_read None = codes.unknown_code
view_read (Some s) = view_step s

-- the slot is one of its row
abbrev pub InRow : Step → Type 0
InRow Issue = Unit
InRow (Arrival i) = i < buffer_count
InRow (Completion i) = i < station_count
InRow (BufferGrant i) = i < buffer_count
InRow (StationGrant i) = i < station_count
InRow (Release i) = i < store_count

pub record ReadsAs (code : ℕ) (r : Option Step) : Type 0 where
  pub step : view_read r ≡ step_of code
  pub within : IfSome r InRow
