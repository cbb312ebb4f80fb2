use Prim.Native.Nat.{◌+◌, ◌*◌}
use native.Mathlib.Nat.{mod-eq_of_lt}
use native.Mathlib.Omega.{arith}
use lib.Bits.{or_shifted}
use Rattle.list_file.proofs.reader.word_of.Goals as goal

pub returns : goal.returns
returns c =
    let a = c.args in
    rw (
      mod-eq_of_lt {n = a.r1 * 4096} {m = 4294967296} (omega arith),
      or_shifted a.r1 12 a.operand (omega arith),
      mod-eq_of_lt {n = a.operation * 65536} {m = 4294967296} (omega arith),
      or_shifted a.operation 16 (a.r1 * 4096 + a.operand) (omega arith),
    )
    (omega arith)
