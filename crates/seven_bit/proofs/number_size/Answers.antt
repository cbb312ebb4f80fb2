use mathlib.Core.Path.{sym, ap}
use native.Mathlib.Omega.{arith}
use lib.ListN.{length}
use Rattle.seven_bit.proofs.Shortest.{bytes_one, bytes_two, bytes_three}
use Rattle.seven_bit.proofs.number_size.Goals as goal

pub returns-then-value-lt-TWO_BYTES_FROM : goal.returns-then-value-lt-TWO_BYTES_FROM
returns-then-value-lt-TWO_BYTES_FROM c = sym (ap length (bytes_one _ c.if-value-lt-TWO_BYTES_FROM.true))

pub returns-then-value-lt-THREE_BYTES_FROM : goal.returns-then-value-lt-THREE_BYTES_FROM
returns-then-value-lt-THREE_BYTES_FROM c = sym (ap length (bytes_two _ c.if-value-lt-TWO_BYTES_FROM.false (omega arith)))

pub returns : goal.returns
returns c = sym (ap length (bytes_three _ c.if-value-lt-TWO_BYTES_FROM.false (omega arith)))
