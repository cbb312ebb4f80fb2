use mathlib.Core.Path.{◌≡◌}
use mathlib.Core.Bool.{Bool, true, false}
use lib.Ieee.{Float}
use borrow.Author.Rules.{rules}
use borrow.Author.Tests.{tests}
use Rattle.std.proofs.lemmas.Iterator.{cases_from_all, YieldsList-from_slice}
use Rattle.theory_machine.specs.Machine.{StoreBuffer, free_store}
use Rattle.machine_parts.specs.View.{view_store}
use Rattle.std.specs.Prelude.{None}
use Rattle.good_order.specs.SlotRules.{place_in, store_good}
use Rattle.good_order.proofs.Loops.{row_seen}
use Rattle.good_order.proofs.row_rules.stores_good.Goals as goal

pub returns : goal.returns
returns c =
    let row = c.args.stores in
    let good : StoreBuffer Float → Bool = store_good (place_in c.args.places.now) c.args.next c.args.results in
    row_seen view_store good (record { pending = None }) (free_store) row 3 (search rules) c.all.result
    (cases_from_all _ _ c.all.result (λ x. good (view_store x) ≡ true) (λ x. good (view_store x) ≡ false) c.all.ensures.ran (YieldsList-from_slice row cc) (λ x q k. search (rules, tests)) (λ x q k. search (rules, tests)))
