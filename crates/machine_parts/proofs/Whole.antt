-- A machine of the code has rows of the right lengths.
use mathlib.Core.Path.{◌≡◌, ◌∙◌}
use lib.ListN.{length, length-map}
use Rattle.theory_machine.specs.Tags.{register_count, buffer_count, station_count, store_count}
use Rattle.theory_machine.specs.Machine.{Shape}
use Rattle.machine_parts.specs.declared.Machine.{Machine}
use Rattle.machine_parts.specs.View.{view_register, view_buffer, view_station, view_store, view}

pub whole : (m : Machine) → length m.registers ≡ register_count → length m.buffers ≡ buffer_count → length m.stations ≡ station_count
    → length m.stores ≡ store_count → Shape (view m)
whole m r b s t = record {
  four_registers = length-map m.registers view_register ∙ r;
  six_buffers = length-map m.buffers view_buffer ∙ b;
  five_stations = length-map m.stations view_station ∙ s;
  three_stores = length-map m.stores view_store ∙ t;
}
