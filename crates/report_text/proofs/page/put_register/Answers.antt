use native.Mathlib.Omega.{arith}
use Rattle.theory_report.specs.Report.{register_line}
use Rattle.report_text.specs.Put.{tag_limit, register_limit}
use Rattle.printing.proofs.Putting.{in_then, left-room, first-put, then-put}
use Rattle.report_text.proofs.page.put_register.Goals as goal

-- in each: where a part of the line has been put has that part's name, `to-` and the name is the line up to it, and `s` is where the function begins
pub put_operand-fifth-requires : goal.put_operand-fifth-requires
put_operand-fifth-requires c =
    let to-letter = first-put register_limit c.requires c.put_text-second.ensures (omega arith) in
    let to_number = then-put register_limit c.requires to-letter c.put_decimal-third.ensures (omega arith) in
    left-room register_limit tag_limit c.requires (then-put register_limit c.requires to_number c.put_text-fourth.ensures (omega arith)) (omega arith)

pub returns : goal.returns
unfolding register_line
returns c =
    let to-letter = first-put register_limit c.requires c.put_text-second.ensures (omega arith) in
    let to_number = then-put register_limit c.requires to-letter c.put_decimal-third.ensures (omega arith) in
    let to-gap = then-put register_limit c.requires to_number c.put_text-fourth.ensures (omega arith) in
    then-put register_limit c.requires (in_then to-gap c.put_operand-fifth.ensures) c.put_text.ensures (omega arith)
