use Prim.Native.Nat.{◌*◌, ◌≤◌}
use lib.ListN.{length}
use Rattle.printing.specs.Put.{PutIn}
use Rattle.report_text.specs.Put.{record_limit}
use Rattle.report_text.proofs.Rows.{first_records}
use Rattle.report_text.proofs.page.put_records.Given as goal

abbrev pub invariant-loop-record : goal.invariant-loop-record
invariant-loop-record l =
    (l.record-index ≤ length l.records)
    × PutIn (l.record-index * record_limit) l.initial.out l.out l.at l.end (first_records l.records l.record-index)
