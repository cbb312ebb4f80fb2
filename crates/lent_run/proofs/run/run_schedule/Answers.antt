use mathlib.Core.Path.{refl}
use borrow.Author.Rules.{rules}
use Rattle.machine_parts.proofs.Whole.{whole}
use Rattle.machine_steps.specs.Advance.{view_progress}
use Rattle.lent_run.proofs.Answers.{run-answers}
use Rattle.lent_run.proofs.Going.{begins, onward, over, falls}
use Rattle.lent_run.proofs.run.run_schedule.Goals as goal

pub loop-entry-init : goal.loop-entry-init
loop-entry-init c =
    let a = c.args in
    begins a.m a.words.now a.operands.now a.results.now a.schedule.now a.log.now c.begun-run.ensures

pub loop-entry-smaller : goal.loop-entry-smaller
loop-entry-smaller c =
    let a = c.args in
    falls a.m a.words.now a.operands.now a.results.now a.schedule.now a.log.now (view_progress c.loop-entry.run) c.loop-entry.results c.loop-entry.log
    _ c.advance.new.results c.in-Some.ensures.0 c.in-Some.ensures.1 refl

pub loop-entry-preserved : goal.loop-entry-preserved
loop-entry-preserved c =
    let a = c.args in
    rw c.put_entry.ensures
    (onward a.m a.words.now a.operands.now a.results.now a.schedule.now a.log.now (view_progress c.loop-entry.run) c.loop-entry.results c.loop-entry.log
    _ c.advance.new.results c.in-Some.ensures.0 c.in-Some.ensures.1 c.loop-entry.invariant refl)

pub returns : goal.returns
returns c =
    let a = c.args in
    run-answers a.m a.words.now a.operands.now a.results.now a.schedule.now a.log.now
    (whole a.m (search rules) (search rules) (search rules) (search rules))
    (over a.m a.words.now a.operands.now a.results.now a.schedule.now a.log.now (view_progress c.loop-entry.run) c.loop-entry.results c.loop-entry.log
    _ c.advance.new.results c.in_default.ensures.0 c.in_default.ensures.1 c.loop-entry.invariant refl)
