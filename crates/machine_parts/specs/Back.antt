-- What a view is of: back from the machine of crate theory_machine to the declared types.
use Rattle.std.specs.Prelude.{map, Float, Some, None}
use Rattle.theory_machine.specs.Machine as theory
use Rattle.theory_machine.specs.Machine.{num, tag, free_buffer, waiting, full, free_station, holding, done, free_store, live}
use Rattle.machine_parts.specs.declared.Operand.{Operand}
use Rattle.machine_parts.specs.declared.Operand.TheVariants.{Number, Waits}
use Rattle.machine_parts.specs.declared.Register.{Register}
use Rattle.machine_parts.specs.declared.BufferState.TheVariants as buffer
use Rattle.machine_parts.specs.declared.Buffer.{Buffer}
use Rattle.machine_parts.specs.declared.StationState.TheVariants as station
use Rattle.machine_parts.specs.declared.Station.{Station}
use Rattle.machine_parts.specs.declared.StoreBuffer.{StoreBuffer}
use Rattle.machine_parts.specs.declared.Machine.{Machine}
use Rattle.machine_parts.specs.declared.Record.{Record}
use Rattle.machine_parts.specs.Altered.{standing}

abbrev pub operand_of : theory.Operand Float → Operand
operand_of (num x) = Number x
operand_of (tag t) = Waits (record { 0 = t })

abbrev pub register_of : theory.Operand Float → Register
register_of o = record { operand = operand_of o }

abbrev pub buffer_of : theory.Buffer Float → Buffer
buffer_of free_buffer = record { state = buffer.Free }
buffer_of (waiting p c) = record { state = buffer.Waiting (record { place = p; cell = c }) }
buffer_of (full p v) = record { state = buffer.Full (record { place = p; number = v }) }

abbrev pub station_of : theory.Station Float → Station
station_of free_station = record { state = station.Free }
station_of (holding p o x y) =
    record { state = station.Holding (record { place = p; operation = o; sink = operand_of x; source = operand_of y }) }
station_of (done p v) = record { state = station.Done (record { place = p; number = v }) }

abbrev pub store_of : theory.StoreBuffer Float → StoreBuffer
store_of free_store = record { pending = None }
store_of (live p c x) = record { pending = Some (record { place = p; cell = c; operand = operand_of x }) }

abbrev pub machine_of : theory.Machine Float → Machine
machine_of m =
    standing m.next (map register_of m.registers) (map buffer_of m.buffers) (map station_of m.stations) (map store_of m.stores)

abbrev pub record_of : theory.Record Float → Record
record_of r = record { place = r.place; cell = r.cell; number = r.number }
