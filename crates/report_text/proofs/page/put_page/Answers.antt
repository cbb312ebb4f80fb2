use native.Mathlib.Omega.{arith}
use lib.ListN.{length-map}
use Rattle.machine_parts.specs.View.{view_record}
use Rattle.printing.proofs.Putting.{in_then, in_more}
use Rattle.report_text.proofs.page.put_page.Goals as goal

pub returns : goal.returns
returns c =
    rw (length-map c.args.records.now view_record)
    (in_more 131072 (in_then c.put_head-second.ensures c.put_records.ensures) (omega (arith, c.requires.0)))
