use mathlib.Core.Path.{◌∙◌}
use Rattle.std.specs.Prelude.{option_copied}
use Rattle.words.proofs.Refusals.{handed_on}
use Rattle.report_text.specs.declared.begin.Name.TheVariants as name
use Rattle.report_text.proofs.FileFaults.{opened_fault}
use Rattle.report_text.proofs.Stages.{passed, taken, stop_list, stop_operands, stop_schedule, stop_areas, runs}
use Rattle.report_text.proofs.begin.begin.Goals as goal

-- in each: where a file is without a fault, that file's place in 01's order
pub returns-in_err-count : goal.returns-in_err-count
returns-in_err-count c =
    rw (handed_on _ _ c.from_residual.ensures.1) (stop_list _ _ _ _ c.in_err-count.ensures c.read_list.ensures.is)

pub returns-in_err-operands : goal.returns-in_err-operands
returns-in_err-operands c =
    let one = passed _ name.List c.in_ok-count.ensures ∙ c.read_list.ensures.is in
    rw (handed_on _ _ c.from_residual-in_err-operands.ensures.1) (stop_operands _ _ _ one _ c.in_err-operands.ensures c.read_cells.ensures.is)

pub returns-in_err-named : goal.returns-in_err-named
returns-in_err-named c =
    let one = passed _ name.List c.in_ok-count.ensures ∙ c.read_list.ensures.is in
    let two = passed _ name.Operands c.in_ok-operands.ensures ∙ c.read_cells.ensures.is in
    rw (handed_on _ _ c.from_residual-in_err-named.ensures.1)
    (stop_schedule _ _ _ one two _ c.in_err-named.ensures (opened_fault _ (option_copied c.args.files.schedule) _ c.opened.ensures))

pub returns-in_err-named-2 : goal.returns-in_err-named-2
returns-in_err-named-2 c =
    let one = passed _ name.List c.in_ok-count.ensures ∙ c.read_list.ensures.is in
    let two = passed _ name.Operands c.in_ok-operands.ensures ∙ c.read_cells.ensures.is in
    let three = passed _ name.Schedule c.in_ok-named.ensures ∙ opened_fault _ (option_copied c.args.files.schedule) _ c.opened.ensures in
    let words = rw (taken _ name.List c.in_ok-count.ensures) at c.read_list.ensures.words in
    let counted = rw (taken _ name.Operands c.in_ok-operands.ensures) at c.read_cells.ensures.counted in
    rw (handed_on _ _ c.from_residual-in_err-named-2.ensures.1)
    (stop_areas _ _ _ one two three _ _ _ words counted _ c.in_err-named-2.ensures c.check_areas.ensures)

pub returns : goal.returns
returns c =
    let one = passed _ name.List c.in_ok-count.ensures ∙ c.read_list.ensures.is in
    let two = passed _ name.Operands c.in_ok-operands.ensures ∙ c.read_cells.ensures.is in
    let three = passed _ name.Schedule c.in_ok-named.ensures ∙ opened_fault _ (option_copied c.args.files.schedule) _ c.opened.ensures in
    let four = passed _ name.Areas c.in_ok-named-2.ensures ∙ c.check_areas.ensures in
    let list = taken _ name.List c.in_ok-count.ensures in
    let operands = taken _ name.Operands c.in_ok-operands.ensures in
    runs _ _ _ one two three _ _ _
    (rw list at c.read_list.ensures.words)
    (rw operands at c.read_cells.ensures.counted)
    four
    (rw operands at c.read_cells.ensures.numbers)
    (rw list at c.read_list.ensures.few)
    (rw operands at c.read_cells.ensures.few)
