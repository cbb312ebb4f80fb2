-- "Arithmetic is IEEE 754 binary64": the first kind of number.
use Rattle.std.specs.Prelude.{Float}
use Rattle.numbers.specs.Number.{apply, number_of}
use Rattle.theory_machine.specs.Machine.{Kind}

abbrev pub binary64 : Kind
binary64 = record { Num = Float; nought = number_of 0; apply = apply }
