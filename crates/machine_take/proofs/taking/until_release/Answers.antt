use Rattle.std.proofs.Common.{sym, ◌∙◌, arith}
use Rattle.std.proofs.lemmas.Result.{err_from_is_err_and}
use Rattle.machine_take.proofs.Forwards.{moves_on}
use Rattle.machine_take.proofs.Takes.{at_end, number_stops, step_stops, step_goes, release_stops}
use Rattle.machine_take.proofs.taking.until_release.Goals as goal

pub returns-in_err-code : goal.returns-in_err-code
returns-in_err-code c =
    let p = err_from_is_err_and c.from_residual.result c.from_residual.ensures.1 in
    rw (p.1, p.2) (number_stops _ _ _ _ c.loop-taken.invariant c.loop-taken-test.true (sym c.in_err-code.ensures))

pub returns-in_err-released : goal.returns-in_err-released
returns-in_err-released c =
    let p = err_from_is_err_and c.from_residual-in_err-released.result c.from_residual-in_err-released.ensures.1 in
    let e = c.in_err-released.ensures in
    rw (p.1, p.2, e.refused) (step_stops _ _ _ _ c.loop-taken.invariant c.loop-taken-test.true (sym c.in_ok-code.ensures) _ (rw e.refused at e.is))

pub returns-then-is_some : goal.returns-then-is_some
returns-then-is_some c =
    release_stops _ _ _ _ c.loop-taken.invariant c.loop-taken-test.true (sym c.in_ok-code.ensures) _ c.in_ok-released.ensures.is
    (sym c.is_some.ensures ∙ c.if-is_some.true)

pub loop-taken-smaller : goal.loop-taken-smaller
loop-taken-smaller c = omega (arith, moves_on c.args.schedule.now c.loop-taken.taken.place (sym c.in_ok-code.ensures))

pub loop-taken-preserved : goal.loop-taken-preserved
loop-taken-preserved c =
    step_goes _ _ _ _ c.loop-taken.invariant c.loop-taken-test.true (sym c.in_ok-code.ensures) _ c.in_ok-released.ensures.is
    (sym c.is_some.ensures ∙ c.if-is_some.false)

pub returns : goal.returns
returns c = at_end _ _ _ _ c.loop-taken.invariant c.loop-taken-test.false
