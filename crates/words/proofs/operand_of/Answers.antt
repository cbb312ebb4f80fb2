use lib.Bits.{and_mask}
use Rattle.words.proofs.operand_of.Goals as goal

pub returns : goal.returns
returns c = and_mask c.args.word 12
