use mathlib.Core.Path.{◌≡◌, sym, ap, ◌∙◌}
use Rattle.words.specs.Check.{Verdict}
use Rattle.words.specs.Refusals.{answer_number}
use Rattle.words.proofs.Refusals.{number_real, handed_on}
use Rattle.theory_machine.specs.Binary64.{binary64}
use Rattle.theory_machine.proofs.Checks.{by_list, by_order, both_pass}
use Rattle.machine_parts.specs.View.{view}
use Rattle.good_order.proofs.entry_refusal.Goals as goal

-- the check's answer, by its refusal
refusal_of : (v w : Verdict) → v ≡ w → v.refusal ≡ w.refusal
refusal_of v w e = ap (λ (x : Verdict). x.refusal) e

pub returns-in_err-check_list_against : goal.returns-in_err-check_list_against
returns-in_err-check_list_against c =
    let a = c.args in
    let e = refusal_of _ _ c.in_err-check_list_against.ensures in
    ap answer_number (handed_on _ _ c.from_residual.ensures.1) ∙ e
    ∙ sym (by_list binary64 a.words.now a.areas (view a.m) (λ z. number_real _ (e ∙ z)))

pub returns-then-not-in_good_order : goal.returns-then-not-in_good_order
returns-then-not-in_good_order c =
    let a = c.args in
    sym (by_order binary64 a.words.now a.areas (view a.m) (sym (refusal_of _ _ c.in_ok-check_list_against.ensures))
    (sym c.in_good_order.ensures ∙ c.if-not-in_good_order.true))

pub returns : goal.returns
returns c =
    let a = c.args in
    sym (both_pass binary64 a.words.now a.areas (view a.m) (sym (refusal_of _ _ c.in_ok-check_list_against.ensures))
    (sym c.in_good_order.ensures ∙ c.if-not-in_good_order.false))
