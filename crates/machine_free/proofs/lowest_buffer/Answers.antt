use mathlib.Core.Path.{◌≡◌}
use mathlib.Core.Bool.{true, false}
use borrow.Author.Rules.{rules}
use borrow.Author.Tests.{tests}
use Rattle.std.proofs.lemmas.Iterator.{first_from_Range}
use Rattle.machine_free.proofs.Tested.{buffer_test, buffer_tested}
use Rattle.machine_free.proofs.Search.{lowest}
use Rattle.machine_free.proofs.lowest_buffer.Goals as goal

pub returns : goal.returns
returns c =
    let a = c.args in
    lowest (buffer_test a.bs) 6 c.find.result
    (first_from_Range _ _ _ c.find.result (λ i. buffer_test a.bs i ≡ true) (λ i. buffer_test a.bs i ≡ false) c.find.ensures.ran (λ x q k. buffer_tested a.bs x true (search (rules, tests))) (λ x q k. let e : buffer_test a.bs x ≡ false = buffer_tested a.bs x false (search (rules, tests)) in search (rules, tests)))
