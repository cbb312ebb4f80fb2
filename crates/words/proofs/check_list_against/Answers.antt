use mathlib.Core.Path.{refl, sym, ap, ◌∙◌}
use borrow.Author.Tests.{lt-ltb, le-ltb}
use Rattle.words.specs.Refusals.{verdict}
use Rattle.words.specs.Check.{list_check}
use Rattle.words.proofs.Bad.{bad_here, bad_later, bad_none}
use Rattle.words.proofs.Refusals.{number_real, handed_on, placed_err, placed_ok}
use Rattle.words.proofs.check_list_against.Goals as goal

pub returns-then-words-gt-LIST_LIMIT : goal.returns-then-words-gt-LIST_LIMIT
unfolding list_check
returns-then-words-gt-LIST_LIMIT c = rw (c.at.ensures, lt-ltb _ _ c.if-words-gt-LIST_LIMIT.true)

pub loop-place-init : goal.loop-place-init
loop-place-init c = refl

pub returns-in_err-placed : goal.returns-in_err-placed
unfolding list_check
returns-in_err-placed c =
    let k = placed_err c.word_refusal.result c.loop-place.place c.in_err-placed.ensures in
    let n = k.0 ∙ c.word_refusal.ensures in
    ap verdict (handed_on _ _ c.from_residual.ensures.1)
    ∙ rw (le-ltb _ _ c.if-words-gt-LIST_LIMIT.false, k.1, n)
    (sym (c.loop-place.invariant ∙ bad_here _ _ _ c.loop-place-test.true (λ e. number_real _ (n ∙ e))))

pub loop-place-preserved : goal.loop-place-preserved
loop-place-preserved c = c.loop-place.invariant ∙ bad_later _ _ _ c.loop-place-test.true (sym (placed_ok _ _ c.in_ok-placed.ensures ∙ c.word_refusal.ensures))

pub returns : goal.returns
unfolding list_check
returns c =
    rw (le-ltb _ _ c.if-words-gt-LIST_LIMIT.false)
    (sym (c.loop-place.invariant ∙ bad_none _ _ _ c.loop-place-test.false c.loop-place.auto.place-end))
