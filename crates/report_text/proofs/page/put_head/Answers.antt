use native.Mathlib.Omega.{arith}
use Rattle.report_text.specs.Put.{head_limit}
use Rattle.printing.proofs.Putting.{in_then, first-put, then-put}
use Rattle.report_text.proofs.page.put_head.Goals as goal

-- where a part of the head has been put, `to-` and its name is the head up to it
pub returns : goal.returns
returns c =
    let to-steps = first-put head_limit c.requires c.put_count-second.ensures (omega arith) in
    let to-refusal = in_then to-steps c.put_refusal-third.ensures in
    let to-left = then-put head_limit c.requires to-refusal c.put_count-fourth.ensures (omega arith) in
    let to-registers = in_then to-left c.put_registers-fifth.ensures in
    then-put head_limit c.requires to-registers c.put_count.ensures (omega arith)
