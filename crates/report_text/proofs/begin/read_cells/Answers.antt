use Rattle.words.proofs.Refusals.{handed_on}
use Rattle.report_text.proofs.Cells.{cells_refused}
use Rattle.report_text.proofs.begin.read_cells.Goals as goal

pub returns-in_err-operands : goal.returns-in_err-operands
returns-in_err-operands c =
    rw (handed_on _ _ c.from_residual-in_err-operands.ensures.1) (cells_refused _ c.in_ok-bytes.ensures _ c.requires _ c.in_err-operands.ensures.0)
