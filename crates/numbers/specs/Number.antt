-- Numbers of document 01, "The section that is modelled". A number is a binary64 value in which all not-a-numbers are one,
-- so that equality is 01's sameness: "when their 64 bits are, or when both are not-a-number" (Sameness.antt).
use Rattle.std.specs.Prelude.{ℕ, Float}
use Rattle.std.specs.Float.{binary64}
use Rattle.std.specs.Float.Ieee.{add, sub, mul, div, to_bits, of_bits}
use Rattle.numbers.specs.declared.Operation.{Operation}
use Rattle.numbers.specs.declared.Operation.TheVariants.{Add, Subtract, Multiply, Divide}

-- "Arithmetic is IEEE 754 binary64, nearest, ties to even, one rounding per operation": R1 plus, minus, times, over the operand
abbrev pub apply : Operation → Float → Float → Float
apply Add r1 operand = add binary64 r1 operand
apply Subtract r1 operand = sub binary64 r1 operand
apply Multiply r1 operand = mul binary64 r1 operand
apply Divide r1 operand = div binary64 r1 operand

-- "A program writes every not-a-number as 7FF8000000000000": the 64 bits of a number (`not_a_number` in proofs/Same.antt)
abbrev pub pattern_of : Float → ℕ
pattern_of number = to_bits binary64 number

-- the number that 64 bits stand for
abbrev pub number_of : ℕ → Float
number_of pattern = of_bits binary64 pattern
