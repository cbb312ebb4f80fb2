-- The answer of the code as that of the reader's definition.
use Rattle.std.specs.Prelude.{Result, Ok, Err}
use Rattle.words.specs.declared.refusal.Refused.{Refused}
use Rattle.words.specs.Refusals.{number}
use Rattle.operands_file.specs.declared.OperandsRead as code
use Rattle.operands_file.specs.Reading.{OperandsRead}

-- "a refused file counts 0"
abbrev pub told_read : Result code.OperandsRead Refused → OperandsRead
told_read (Ok r) = record { refusal = 0; place = r.place; count = r.count }
told_read (Err e) = record { refusal = number e.refusal; place = e.place; count = 0 }
