use native.Mathlib.Omega.{arith}
use Rattle.report_text.specs.Put.{record_limit}
use Rattle.printing.proofs.Putting.{in_then}
use Rattle.report_text.proofs.Rows.{records-next, limit_next}
use Rattle.report_text.proofs.page.put_records.Goals as goal

pub loop-record-preserved : goal.loop-record-preserved
loop-record-preserved c =
    let g = c.loop-record in (
      omega (arith, c.loop-record-test.true),
      rw (records-next c.args.records.now g.record-index c.loop-record-test.true, limit_next g.record-index record_limit)
          (in_then g.invariant.1 c.put_record-end.ensures),
    )
