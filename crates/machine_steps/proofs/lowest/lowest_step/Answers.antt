use mathlib.Core.Path.{sym, ap, ◌∙◌}
use mathlib.Core.Option.{Option}
use Prim.Native.Nat.{ℕ}
use Rattle.words.proofs.Refusals.{number_real, handed_on}
use Rattle.theory_machine.specs.Binary64.{binary64}
use Rattle.theory_machine.proofs.Entries.{lowest-refused, lowest-found}
use Rattle.machine_steps.specs.Lowest.{view_lowest_step}
use Rattle.machine_steps.proofs.lowest.lowest_step.Goals as goal

pub returns-in_err-entry_refusal : goal.returns-in_err-entry_refusal
returns-in_err-entry_refusal c =
    let e = rw c.of.ensures at c.in_err-entry_refusal.ensures in
    ap view_lowest_step (handed_on _ _ c.from_residual.ensures.1) ∙ rw e (sym (lowest-refused binary64 _ _ (λ z. number_real _ (e ∙ z))))

pub returns : goal.returns
returns c =
    ap (λ (o : Option ℕ). record { refusal = 0; code = o }) c.lowest_permitted.ensures
    ∙ sym (lowest-found binary64 _ _ (sym (rw c.of.ensures at c.in_ok-entry_refusal.ensures)))
