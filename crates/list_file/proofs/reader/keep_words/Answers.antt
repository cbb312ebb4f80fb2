use mathlib.Core.Path.{sym, ◌∙◌}
use native.Mathlib.Omega.{arith}
use Rattle.list_file.proofs.Words.{stopped, keeping_none, keeping_more, keeping_stops, keeping_left, keeping_all}
use Rattle.list_file.proofs.reader.keep_words.Goals as goal

pub loop-place-init : goal.loop-place-init
loop-place-init c = keeping_none _ _ _

pub returns-in_err-word : goal.returns-in_err-word
returns-in_err-word c =
    keeping_stops _ _ _ c.loop-place.invariant (omega (arith, c.loop-place-test.true, c.loop-place.invariant.same)) (sym c.in_err-word.ensures)
    ∙ stopped _ _ _ _ c.from_residual.ensures.1

pub loop-place-preserved : goal.loop-place-preserved
loop-place-preserved c =
    keeping_more _ _ _ c.loop-place.invariant (omega (arith, c.loop-place-test.true, c.loop-place.invariant.same)) (sym c.in_ok-word.ensures)

pub returns-then-at-bytes : goal.returns-then-at-bytes
returns-then-at-bytes c =
    rw c.at.ensures (keeping_left _ _ _ c.loop-place.invariant (omega (arith, c.loop-place-test.false, c.loop-place.invariant.same)) c.if-at-bytes.true)

pub returns : goal.returns
returns c = keeping_all _ _ _ c.loop-place.invariant (omega (arith, c.loop-place-test.false, c.loop-place.invariant.same)) c.if-at-bytes.false
