use mathlib.Core.Path.{◌≡◌, refl, sym, ap, ◌∙◌}
use Rattle.std.specs.Prelude.{option_copied}
use Rattle.theory_report.specs.Report.{bytes_in}
use Rattle.report_text.specs.Files.{file_given}
use Rattle.report_text.proofs.FileFaults.{or_none}
use Rattle.report_text.proofs.Stages.{run_text}
use Rattle.report_text.proofs.Whole.{printed_put}
use Rattle.report_text.proofs.report.report.Goals as goal

pub returns-in-Err : goal.returns-in-Err
returns-in-Err c =
    let s = rw c.in-Err.is at c.begin.ensures in
    rw s.text (printed_put c.if-out-lt-PAGE.false c.put_stop.ensures)

pub returns-in-Ok : goal.returns-in-Ok
returns-in-Ok c =
    let files = c.args.files in
    let s = rw c.in-Ok.is at c.begin.ensures in
    let schedule : bytes_in (file_given (option_copied files.schedule)) ≡ c.unwrap_or-schedule.result.now =
    or_none files.schedule _ refl ∙ ap (λ b. b.now) (sym c.unwrap_or-schedule.ensures) in
    let text = run_text (option_copied files.list) (option_copied files.operands) (option_copied files.schedule) _ _ _ _ s.words s.numbers in
    rw (s.text ∙ text, schedule) (printed_put c.if-out-lt-PAGE.false c.told_run.ensures)
