use mathlib.Core.Path.{sym, ◌∙◌}
use native.Mathlib.Omega.{arith}
use lib.ListN.{get_or}
use Rattle.words.proofs.Refusals.{number_real, handed_on, placed_err, placed_ok}
use Rattle.list_file.proofs.Laid.{nine_bytes}
use Rattle.list_file.proofs.Measured.{too_long_lem, sizing_none, sizing_more, sizing_bad, sizing_all}
use Rattle.list_file.proofs.writer.measure.Goals as goal

pub returns-then-list-gt-LIST_LIMIT : goal.returns-then-list-gt-LIST_LIMIT
returns-then-list-gt-LIST_LIMIT c = rw c.at.ensures (too_long_lem _ c.if-list-gt-LIST_LIMIT.true)

pub loop-place-init : goal.loop-place-init
loop-place-init c = sizing_none _ c.number_size-length.ensures

pub returns-in_err-placed : goal.returns-in_err-placed
returns-in_err-placed c =
    let k = placed_err _ _ c.in_err-placed.ensures in
    rw (handed_on _ _ c.from_residual.ensures.1, k.1)
    (sizing_bad _ c.loop-place.invariant c.loop-place-test.true c.if-list-gt-LIST_LIMIT.false (k.0 ∙ c.word_refusal.ensures) (number_real _))

pub overflow_add-length : goal.overflow_add-length
overflow_add-length c =
    omega (
      arith,
      c.word_size-length.ensures,
      nine_bytes (get_or c.args.list.now c.loop-place.place 0),
      c.loop-place.invariant.small,
      c.loop-place.invariant.within,
      c.if-list-gt-LIST_LIMIT.false,
    )

pub loop-place-preserved : goal.loop-place-preserved
loop-place-preserved c =
    sizing_more _ c.loop-place.invariant c.loop-place-test.true
    (sym (placed_ok _ _ c.in_ok-placed.ensures ∙ c.word_refusal.ensures)) c.word_size-length.ensures

pub returns : goal.returns
returns c = sizing_all _ c.loop-place.invariant c.if-list-gt-LIST_LIMIT.false c.loop-place-test.false
