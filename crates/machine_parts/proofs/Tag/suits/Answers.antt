use native.Mathlib.Omega.{arith}
use Rattle.machine_parts.proofs.Adders.{no_station_lem, adder_index, other_index}
use Rattle.machine_parts.proofs.Tag.suits.Goals as goal

pub returns-then-index-ge-STATIONS : goal.returns-then-index-ge-STATIONS
returns-then-index-ge-STATIONS c = no_station_lem c.args.index (omega arith) c.args.operation

pub returns-in-Add : goal.returns-in-Add
returns-in-Add c =
    rw c.in-Add.is (adder_index c.args.index (omega arith))

pub returns-in-Subtract : goal.returns-in-Subtract
returns-in-Subtract c =
    rw c.in-Subtract.is (adder_index c.args.index (omega arith))

pub returns-in-Multiply : goal.returns-in-Multiply
returns-in-Multiply c = rw c.in-Multiply.is (other_index c.args.index)

pub returns-in-Divide : goal.returns-in-Divide
returns-in-Divide c = rw c.in-Divide.is (other_index c.args.index)
