use mathlib.Core.Path.{◌≡◌}
use mathlib.Core.Bool.{true, false}
use borrow.Author.Rules.{rules}
use borrow.Author.Tests.{tests}
use Rattle.std.proofs.lemmas.Iterator.{IsFirst-from_position, YieldsList-from_slice}
use Rattle.theory_machine.specs.Machine.{is_free_store}
use Rattle.machine_parts.specs.View.{view_store}
use Rattle.std.specs.Prelude.{None}
use Rattle.machine_free.proofs.Search.{lowest_of_row}
use Rattle.machine_free.proofs.lowest_store.Goals as goal

pub returns : goal.returns
returns c =
    lowest_of_row view_store is_free_store (record { pending = None }) c.args.ts 3 (search rules) c.position.result
    (IsFirst-from_position _ _ c.position.result (λ b. is_free_store (view_store b) ≡ true) (λ b. is_free_store (view_store b) ≡ false) c.position.ensures.ran (YieldsList-from_slice c.args.ts cc) (λ x q k. search (rules, tests)) (λ x q k. search (rules, tests)))
