-- What the searches for a free buffer and a free station ask of an index, and what the code's test of it answers.
use mathlib.Core.Path.{◌≡◌, refl, sym, ap, ◌∙◌}
use mathlib.Core.Bool.{Bool, ◌&&◌}
use mathlib.Core.List.{List, map}
use Prim.Native.Nat.{ℕ}
use lib.ListN.{get_or}
use Rattle.numbers.specs.declared.Operation.{Operation}
use Rattle.theory_machine.specs.Tags.{suits}
use Rattle.theory_machine.specs.Machine.{free_buffer, is_free_buffer, free_station, is_free_station}
use Rattle.machine_parts.specs.View.{view_buffer, view_station}
use Rattle.machine_parts.specs.declared.Buffer.{Buffer}
use Rattle.machine_parts.specs.declared.BufferState.TheVariants as buffer
use Rattle.machine_parts.specs.declared.Station.{Station}
use Rattle.machine_parts.specs.declared.StationState.TheVariants as station
use Rattle.machine_parts.proofs.Seen.{seen}

abbrev pub buffer_test : List Buffer → ℕ → Bool
buffer_test bs i = is_free_buffer (get_or (map view_buffer bs) i free_buffer)

abbrev pub station_test : Operation → List Station → ℕ → Bool
station_test o ss i = suits i o && is_free_station (get_or (map view_station ss) i free_station)

pub buffer_tested : (bs : List Buffer) (i : ℕ) (r : Bool) → r ≡ is_free_buffer (view_buffer (get_or bs i (record { state = buffer.Free }))) → buffer_test bs i ≡ r
buffer_tested bs i r e = ap is_free_buffer (seen view_buffer bs i (record { state = buffer.Free }) refl) ∙ sym e

pub station_tested : (o : Operation) (ss : List Station) (i : ℕ) (r : Bool) → r ≡ (suits i o && is_free_station (view_station (get_or ss i (record { state = station.Free })))) → station_test o ss i ≡ r
station_tested o ss i r e = ap (λ s. suits i o && is_free_station s) (seen view_station ss i (record { state = station.Free }) refl) ∙ sym e
