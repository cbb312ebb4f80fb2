use Prim.Native.Nat.{◌/◌}
use lib.Bits.{and_mask}
use Rattle.words.proofs.r1_of.Goals as goal

pub returns : goal.returns
returns c = and_mask (c.args.word / 4096) 4
