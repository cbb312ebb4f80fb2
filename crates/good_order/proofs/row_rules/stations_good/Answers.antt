use mathlib.Core.Path.{◌≡◌, ap, ◌∙◌}
use mathlib.Core.Bool.{true, false}
use mathlib.Core.List.{map}
use native.Mathlib.Omega.{arith}
use lib.ListN.{get_or}
use borrow.Author.Rules.{rules}
use borrow.Author.Tests.{tests}
use Rattle.std.proofs.Common.{zero-add}
use Rattle.std.specs.List.{enumerate_from}
use Rattle.std.proofs.lemmas.Iterator.{cases_from_all, YieldsList-from_slice}
use Rattle.std.proofs.lemmas.Iterator.Consumers.{YieldsList-from_enumerate}
use Rattle.std.proofs.lemmas.List.FromFn.{length-enumerate_from, get_or-enumerate_from}
use Rattle.theory_machine.specs.Machine.{free_station}
use Rattle.machine_parts.specs.View.{view_station}
use Rattle.machine_parts.specs.declared.StationState.TheVariants.{Free}
use Rattle.machine_parts.specs.declared.Station.{Station}
use Prim.Native.Nat.{ℕ}
use Rattle.good_order.specs.SlotRules.{place_in, station_good}
use Rattle.good_order.proofs.Loops.{viewed, row_passes}
use Rattle.good_order.proofs.row_rules.stations_good.Goals as goal

pub returns : goal.returns
returns c =
    let a = c.args in
    let row = a.stations in
    let good = λ (p : ℕ × Station). station_good (place_in a.places.now) a.next p.0 (view_station p.1) in
    row_passes good (0, record { state = Free }) (enumerate_from 0 row) 5 (λ i. station_good (place_in a.places.now) a.next i (get_or (map view_station row) i free_station))
    (length-enumerate_from 0 row ∙ search rules)
    (λ i h.
    rw (get_or-enumerate_from 0 row i (0, record { state = Free }) (omega arith), zero-add i)
    (ap (station_good (place_in a.places.now) a.next i) (viewed view_station row i (record { state = Free }) free_station (omega arith)))) c.all.result
    (cases_from_all _ _ c.all.result (λ p. good p ≡ true) (λ p. good p ≡ false) c.all.ensures.ran (YieldsList-from_enumerate (YieldsList-from_slice row cc) cc) (λ x q k. search (rules, tests)) (λ x q k. search (rules, tests)))
