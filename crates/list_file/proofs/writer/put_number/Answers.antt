use native.Mathlib.Omega.{arith}
use Rattle.seven_bit.proofs.Put.{put-fits}
use Rattle.list_file.proofs.writer.put_number.Goals as goal

pub returns : goal.returns
returns c =
    put-fits _ _ _ (omega (arith, c.requires.0)) c.requires.1 c.put_number.ensures
