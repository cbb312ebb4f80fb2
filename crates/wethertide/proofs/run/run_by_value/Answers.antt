use mathlib.Core.Path.{refl, ap, ◌∙◌}
use native.Mathlib.Omega.{arith}
use borrow.Author.Rules.{rules}
use Rattle.machine_parts.proofs.Whole.{whole}
use Rattle.machine_steps.specs.Advance.{Progress}
use Rattle.wethertide.proofs.Logging.{logs_none, logs_stop, logs_less, logs_run, none_at_first}
use Rattle.wethertide.proofs.run.run_by_value.Goals as goal

pub loop-entry-init : goal.loop-entry-init
loop-entry-init c = logs_none _ _ _ _ _ _ (ap (λ (p : Progress). p.records) c.begun-run.ensures ∙ none_at_first _ _ _ _)

pub loop-entry-smaller : goal.loop-entry-smaller
loop-entry-smaller c =
    omega (
      arith,
      logs_less _ _ _ _ _ _ _ _ _ _ _ _ c.in-Some.ensures.0 c.in-Some.ensures.1 c.put_entry.ensures c.advance.auto.results refl c.loop-entry.invariant,
    )

pub loop-entry-preserved : goal.loop-entry-preserved
loop-entry-preserved c =
    logs_stop _ _ _ _ _ _ _ _ _ _ _ _ c.in-Some.ensures.0 c.in-Some.ensures.1 c.put_entry.ensures c.advance.auto.results refl c.loop-entry.invariant

pub shape_of-results : goal.shape_of-results
shape_of-results c = c.advance.auto.results ∙ c.loop-entry.invariant.area

pub shape_of-log : goal.shape_of-log
shape_of-log c = c.loop-entry.invariant.same

pub returns : goal.returns
returns c =
    logs_run _ _ _ _ _ _ _ c.begun-run.ensures (whole c.args.m (search rules) (search rules) (search rules) (search rules)) refl
    (logs_stop _ _ _ _ _ _ _ _ _ _ _ _ c.in_default.ensures.0 c.in_default.ensures.1 refl c.advance.auto.results refl c.loop-entry.invariant)
