-- The declared types as the machine of crate theory_machine at binary64. The view is one-to-one (proofs/Exact.antt), so a contract on it determines.
use Rattle.std.proofs.Math.Option.{Option, none, some}
use Rattle.std.specs.Prelude as declared
use Rattle.std.specs.Prelude.{List, [], map, ℕ, Float, length, Some, None, Result, Ok, Err}
use Rattle.words.specs.declared.refusal.Refusal.{Refusal}
use Rattle.words.specs.Refusals.{answer_number}
use Rattle.theory_machine.specs.Machine as theory
use Rattle.theory_machine.specs.Machine.{num, tag, free_buffer, waiting, full, free_station, holding, done, free_store, live, Lent, standing}
use Rattle.theory_machine.specs.Issue.{Answer}
use Rattle.machine_parts.specs.declared.Operand.{Operand}
use Rattle.machine_parts.specs.declared.Operand.TheVariants.{Number, Waits}
use Rattle.machine_parts.specs.declared.Register.{Register}
use Rattle.machine_parts.specs.declared.BufferState.{BufferState}
use Rattle.machine_parts.specs.declared.BufferState.TheVariants as buffer
use Rattle.machine_parts.specs.declared.Buffer.{Buffer}
use Rattle.machine_parts.specs.declared.StationState.{StationState}
use Rattle.machine_parts.specs.declared.StationState.TheVariants as station
use Rattle.machine_parts.specs.declared.Station.{Station}
use Rattle.machine_parts.specs.declared.Pending.{Pending}
use Rattle.machine_parts.specs.declared.StoreBuffer.{StoreBuffer}
use Rattle.machine_parts.specs.declared.Machine.{Machine}
use Rattle.machine_parts.specs.declared.Record.{Record}
use Rattle.machine_parts.specs.declared.Stepped.{Stepped}

abbrev pub view_operand : Operand → theory.Operand Float
view_operand (Number x) = num x
view_operand (Waits t) = tag t.0

abbrev pub view_register : Register → theory.Operand Float
view_register r = view_operand r.operand

abbrev pub view_buffer_state : BufferState → theory.Buffer Float
view_buffer_state buffer.Free = free_buffer
view_buffer_state (buffer.Waiting f) = waiting f.place f.cell
view_buffer_state (buffer.Full h) = full h.place h.number

abbrev pub view_buffer : Buffer → theory.Buffer Float
view_buffer b = view_buffer_state b.state

abbrev pub view_station_state : StationState → theory.Station Float
view_station_state station.Free = free_station
view_station_state (station.Holding w) = holding w.place w.operation (view_operand w.sink) (view_operand w.source)
view_station_state (station.Done h) = done h.place h.number

abbrev pub view_station : Station → theory.Station Float
view_station s = view_station_state s.state

abbrev pub view_pending : declared.Option Pending → theory.StoreBuffer Float
view_pending None = free_store
view_pending (Some p) = live p.place p.cell (view_operand p.operand)

abbrev pub view_store : StoreBuffer → theory.StoreBuffer Float
view_store s = view_pending s.pending

abbrev pub view : Machine → theory.Machine Float
view m =
    standing m.next (map view_register m.registers) (map view_buffer m.buffers) (map view_station m.stations) (map view_store m.stores)

abbrev pub view_record : Record → theory.Record Float
view_record r = record { place = r.place; cell = r.cell; number = r.number }

-- what was released, if anything
abbrev pub view_released : declared.Option Record → Option (theory.Record Float)
view_released None = none
view_released (Some r) = some (view_record r)

-- a refused step releases nothing
abbrev pub released_by : Result (declared.Option Record) Refusal → Option (theory.Record Float)
released_by (Ok released) = view_released released
released_by (Err refusal) = none

abbrev pub view_stepped : Stepped → Answer Float
view_stepped s = record { refusal = answer_number s.outcome; machine = view s.machine; released = released_by s.outcome }

-- what is lent to an entry: the list, the operand cells, and the result cells, of which only the length counts
abbrev pub lent_with : (words : List ℕ) (operands : List Float) (results : ℕ) → Lent Float
lent_with words operands results = record { words = words; operands = operands; results = results }

abbrev pub lent : (words : List ℕ) (operands results : List Float) → Lent Float
lent words operands results = lent_with words operands (length results)

-- operand cells lent alone: what an arrival, or one instruction of the one-at-a-time run, reads of what is lent
abbrev pub cells_alone : List Float → Lent Float
cells_alone operands = lent_with [] operands 0
