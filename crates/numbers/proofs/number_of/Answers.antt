use lib.Ieee.{div, of_bits}
use Rattle.numbers.proofs.NotANumber.{low_no_nan, high_nan}
use Rattle.numbers.proofs.number_of.Goals as goal

pub float_from_bits-result : goal.float_from_bits-result
float_from_bits-result c = low_no_nan _ c.if-pattern-le-INFINITY.true

pub returns-else-pattern-le-INFINITY : goal.returns-else-pattern-le-INFINITY
unfolding div of_bits
returns-else-pattern-le-INFINITY c = rw (high_nan _ c.if-pattern-le-INFINITY.false)
