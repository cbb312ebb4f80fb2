use Prim.Native.Nat.{◌*◌, ◌≤◌}
use lib.ListN.{length}
use Rattle.printing.specs.Put.{PutIn}
use Rattle.report_text.specs.Put.{register_limit}
use Rattle.report_text.proofs.Rows.{first_registers}
use Rattle.report_text.proofs.page.put_registers.Given as goal

abbrev pub invariant-loop-i : goal.invariant-loop-i
invariant-loop-i l =
    (l.i ≤ length l.registers)
    × PutIn (l.i * register_limit) l.initial.out l.out l.at l.end (first_registers l.registers l.i)
