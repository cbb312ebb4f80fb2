use mathlib.Core.Path.{◌≡◌}
use Prim.Native.Nat.{◌<◌}
use native.Mathlib.Omega.{arith}
use borrow.Author.Rules.{rules}
use lib.ListN.{length}
use Rattle.report_text.specs.Put.{register_limit}
use Rattle.printing.proofs.Putting.{in_then}
use Rattle.report_text.proofs.Rows.{registers-next, limit_next}
use Rattle.report_text.proofs.page.put_registers.Goals as goal

pub loop-i-preserved : goal.loop-i-preserved
loop-i-preserved c =
    let g = c.loop-i in
    let rs = c.args.registers.now in
    let four : length rs ≡ 4 = search rules in
    let within : g.i < length rs = omega (arith, c.loop-i-test.true) in (
      omega arith,
      rw (registers-next rs g.i within, limit_next g.i register_limit) (in_then g.invariant.1 c.put_register-end.ensures),
    )
