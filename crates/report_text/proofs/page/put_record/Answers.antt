use native.Mathlib.Omega.{arith}
use Rattle.theory_report.specs.Report.{record_line}
use Rattle.report_text.specs.Put.{record_limit}
use Rattle.printing.proofs.Putting.{first-put, then-put}
use Rattle.report_text.proofs.page.put_record.Goals as goal

-- where a part of the line has been put has that part's name, `to-` and the name is the line up to it, and `s` is where the function begins
pub returns : goal.returns
unfolding record_line
returns c =
    let to-place = first-put record_limit c.requires c.put_decimal-second.ensures (omega arith) in
    let to-gap = then-put record_limit c.requires to-place c.put_text-third.ensures (omega arith) in
    let to_cell = then-put record_limit c.requires to-gap c.put_decimal-fourth.ensures (omega arith) in
    let to-gap2 = then-put record_limit c.requires to_cell c.put_text-fifth.ensures (omega arith) in
    let to_number = then-put record_limit c.requires to-gap2 c.put_pattern-sixth.ensures (omega arith) in
    then-put record_limit c.requires to_number c.put_text.ensures (omega arith)
