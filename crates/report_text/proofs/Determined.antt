-- The contract of the one public function determines its answer and what is lent to it.
use mathlib.Core.Path.{sym, ◌∙◌}
use Rattle.numbers.proofs.Determined.{DeterminesLent}
use Rattle.report_text.proofs.report.report.Kinds as report-kinds
use Rattle.report_text.proofs.report.report.Reads as report-reads

pub report_determined : DeterminesLent 2 report-kinds.ps report-kinds.r report-reads.Post (λ κs s. s.1.0.now)
report_determined κs a x y s t p q = (p.counted ∙ sym q.counted, p.written ∙ sym q.written)
