use mathlib.Core.Path.{◌≡◌}
use Rattle.good_order.proofs.Placed.{laid, first_places, buffer_entry, station_entry}
use Rattle.good_order.proofs.givers.giver_places.Given as goal

abbrev pub invariant-loop-i : goal.invariant-loop-i
invariant-loop-i l = l.places ≡ laid (first_places l.i (buffer_entry l.fn.buffers)) (first_places 0 (station_entry l.fn.stations))

abbrev pub invariant-loop-i-2 : goal.invariant-loop-i-2
invariant-loop-i-2 l = l.places ≡ laid (buffer_entry l.fn.buffers) (first_places l.i (station_entry l.fn.stations))
