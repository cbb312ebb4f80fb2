use borrow.Author.Rules.{rules}
use Rattle.report_text.proofs.ToldRun.{told}
use Rattle.report_text.proofs.told.told_run.Goals as goal

pub returns : goal.returns
returns c =
    told c.args.words.now c.args.operands.now c.args.schedule.now c.start-machine.result c.start-machine.ensures (search rules)
    c.run_schedule-run.ensures (search rules) c.steps_left.result c.steps_left.ensures (rw c.unwrap_or-left.ensures at c.put_page.ensures)
