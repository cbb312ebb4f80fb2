use Prim.Native.Nat.{◌*◌, ◌%◌}
use native.Mathlib.Nat.{mod-eq_of_lt}
use native.Mathlib.Omega.{arith}
use lib.Bits.{and_mask, or_shifted_r}
use Rattle.seven_bit.proofs.join.Goals as goal

pub returns : goal.returns
returns c =
    rw (
      and_mask c.args.low 7,
      mod-eq_of_lt {n = c.args.later * 128} {m = 4294967296} (omega arith),
      or_shifted_r c.args.later 7 (c.args.low % 128) (omega arith),
    ) (omega arith)
