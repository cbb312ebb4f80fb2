use mathlib.Core.Path.{◌≡◌}
use mathlib.Core.Bool.{true, false}
use borrow.Author.Rules.{rules}
use borrow.Author.Tests.{tests}
use Rattle.std.proofs.lemmas.Iterator.{first_from_Range}
use Rattle.machine_free.proofs.Tested.{station_test, station_tested}
use Rattle.machine_free.proofs.Search.{lowest}
use Rattle.machine_free.proofs.lowest_station.Goals as goal

pub returns : goal.returns
returns c =
    let a = c.args in
    lowest (station_test a.o a.ss) 5 c.find.result
    (first_from_Range _ _ _ c.find.result (λ i. station_test a.o a.ss i ≡ true) (λ i. station_test a.o a.ss i ≡ false) c.find.ensures.ran (λ x q k. station_tested a.o a.ss x true (search (rules, tests))) (λ x q k. let e : station_test a.o a.ss x ≡ false = station_tested a.o a.ss x false (search (rules, tests)) in search (rules, tests)))
