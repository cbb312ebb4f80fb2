use Rattle.printing.proofs.Putting.{put_one, put_then}
use Rattle.printing.proofs.Decimals.{hexadecimal_more}
use Rattle.printing.proofs.put.+lay_hexadecimal.Goals as goal

pub returns : goal.returns
returns t c = rw (hexadecimal_more c.args.digits c.args.n c.if-digits-eq0.false, c.digit.ensures) (put_then c.lay_hexadecimal-last.ensures (put_one _))
