use mathlib.Core.Path.{◌≡◌, ◌∙◌}
use native.Mathlib.Omega.{arith}
use Rattle.good_order.proofs.Placed.{first_places, buffer_entry, station_entry, next_buffer, next_station, table-laid}
use Rattle.good_order.proofs.givers.giver_places.Goals as goal

pub loop-i-preserved : goal.loop-i-preserved
loop-i-preserved c =
    let a = c.args in
    rw (c.loop-i.invariant, c.buffer_place.ensures) (next_buffer (buffer_entry a.buffers) (first_places 0 (station_entry a.stations)) c.loop-i.i c.loop-i-test.true)

pub loop-i-2-preserved : goal.loop-i-2-preserved
loop-i-2-preserved c =
    let a = c.args in
    rw (c.loop-i-2.invariant, c.station_place.ensures) (next_station (buffer_entry a.buffers) (station_entry a.stations) c.loop-i-2.i c.loop-i-2-test.true)

pub returns : goal.returns
returns c =
    let a = c.args in
    let all : c.loop-i-2.i ≡ 5 = omega (arith, c.loop-i-2-test.false, c.loop-i-2.auto) in
    (rw all at c.loop-i-2.invariant) ∙ table-laid a.buffers a.stations
