use Rattle.printing.proofs.put.+lay_hexadecimal.Given as goal

abbrev pub decreases-lay_hexadecimal : goal.decreases-lay_hexadecimal
decreases-lay_hexadecimal l = l.digits
