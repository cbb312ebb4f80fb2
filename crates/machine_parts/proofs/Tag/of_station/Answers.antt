use native.Mathlib.Omega.{arith}
use borrow.Author.Tests.{lt-ltb, le-ltb}
use Rattle.machine_parts.proofs.Tag.of_station.Goals as goal

pub returns-then-i-lt-STATIONS : goal.returns-then-i-lt-STATIONS
returns-then-i-lt-STATIONS c = rw (lt-ltb c.args.i 5 (omega arith))

pub returns : goal.returns
returns c = rw (le-ltb c.args.i 5 (omega arith))
