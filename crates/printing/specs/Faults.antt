-- A fault of the code as one of the lines.
use Rattle.std.specs.Prelude.{Option, Some, None}
use Rattle.printing.specs.declared.Fault as code
use Rattle.printing.specs.declared.Fault.TheVariants as found
use Rattle.printing.specs.Lines.{Fault, Nothing, Missing, Refused}

abbrev pub told_fault : Option code.Fault → Fault
told_fault None = Nothing
told_fault (Some found.Missing) = Missing
told_fault (Some (found.Refused number place)) = Refused number place
