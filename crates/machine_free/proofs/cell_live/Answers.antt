use mathlib.Core.Path.{◌∙◌}
use borrow.Author.Rules.{rules}
use borrow.Author.Tests.{tests}
use Rattle.std.proofs.lemmas.Iterator.{YieldsList-from_slice}
use Rattle.std.proofs.lemmas.Iterator.Search.{any_from_yields_List}
use Rattle.theory_machine.specs.Machine.{store_cell}
use Rattle.theory_machine.specs.GoodOrder.{has_cell}
use Rattle.machine_parts.specs.View.{view_store}
use Rattle.machine_free.proofs.Live.{some_live}
use Rattle.machine_free.proofs.cell_live.Goals as goal

pub returns : goal.returns
returns c =
    let a = c.args in
    any_from_yields_List (λ t. has_cell a.cell (store_cell (view_store t))) _ _ c.any.result c.any.ensures.ran (YieldsList-from_slice a.ts cc) (λ x b q k. search (rules, tests))
    ∙ some_live a.ts a.cell (search rules)
