use mathlib.Core.Path.{sym, ◌∙◌}
use native.Mathlib.Omega.{arith}
use Rattle.words.proofs.Refusals.{ok_is}
use Rattle.theory_machine.specs.Codes.{code_limit}
use Rattle.machine_steps.proofs.Permits.{lowest_is, permitted}
use Rattle.machine_steps.proofs.First.{searching_none, searching_more, searching_found, searching_all}
use Rattle.machine_steps.proofs.lowest.lowest_permitted.Goals as goal

pub loop-code-init : goal.loop-code-init
loop-code-init c = searching_none _ code_limit

pub returns-then-is_ok : goal.returns-then-is_ok
returns-then-is_ok c =
    let a = c.args in
    sym
    (lowest_is a.m a.words.now a.operands.now a.results
    ∙ searching_found _ c.loop-code.invariant c.loop-code-test.true
    (sym (permitted c.take_codes-taken.result a.m a.words.now a.operands.now a.results c.loop-code.code (omega (arith, c.loop-code-test.true)) c.take_codes-taken.ensures) ∙ sym (ok_is c.take_codes-taken.result.outcome) ∙ sym c.is_ok.ensures.value ∙ c.if-is_ok.true))

pub loop-code-preserved : goal.loop-code-preserved
loop-code-preserved c =
    let a = c.args in
    searching_more _ c.loop-code.invariant c.loop-code-test.true
    (sym (permitted c.take_codes-taken.result a.m a.words.now a.operands.now a.results c.loop-code.code (omega (arith, c.loop-code-test.true)) c.take_codes-taken.ensures) ∙ sym (ok_is c.take_codes-taken.result.outcome) ∙ sym c.is_ok.ensures.value ∙ c.if-is_ok.false)

pub returns : goal.returns
returns c =
    let a = c.args in
    sym (lowest_is a.m a.words.now a.operands.now a.results ∙ searching_all _ c.loop-code.invariant c.loop-code-test.false)
