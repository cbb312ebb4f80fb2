-- The numbers of the sessions: n7·5 is 7.5, by its binary64 pattern.
use Rattle.std.specs.Prelude.{Float}
use Rattle.numbers.specs.Number.{number_of}

abbrev pub n0 : Float
n0 = number_of 0x0000000000000000

abbrev pub n1 : Float
n1 = number_of 0x3FF0000000000000

abbrev pub n1·5 : Float
n1·5 = number_of 0x3FF8000000000000

abbrev pub n2 : Float
n2 = number_of 0x4000000000000000

abbrev pub n2·25 : Float
n2·25 = number_of 0x4002000000000000

abbrev pub n2·5 : Float
n2·5 = number_of 0x4004000000000000

abbrev pub n3 : Float
n3 = number_of 0x4008000000000000

abbrev pub n3·75 : Float
n3·75 = number_of 0x400E000000000000

abbrev pub n5 : Float
n5 = number_of 0x4014000000000000

abbrev pub n7·5 : Float
n7·5 = number_of 0x401E000000000000

abbrev pub n10 : Float
n10 = number_of 0x4024000000000000

abbrev pub n18·75 : Float
n18·75 = number_of 0x4032C00000000000

abbrev pub n64 : Float
n64 = number_of 0x4050000000000000

abbrev pub n6·75 : Float
n6·75 = number_of 0x401B000000000000
