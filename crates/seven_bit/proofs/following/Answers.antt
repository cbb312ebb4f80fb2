use Prim.Native.Nat.{◌%◌}
use native.Mathlib.Omega.{arith}
use lib.Bits.{and_mask, or_shifted_r}
use Rattle.seven_bit.proofs.following.Goals as goal

pub returns : goal.returns
returns c = rw (and_mask c.args.value 7, or_shifted_r 1 7 (c.args.value % 128) (omega arith))
