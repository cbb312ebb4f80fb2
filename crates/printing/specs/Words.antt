-- The words of the lines that every program may print.
use Rattle.std.specs.Prelude.{List, ℕ}
use Rattle.printing.specs.Ascii.{ascii}

abbrev pub stopped : List ℕ
stopped = ascii "stopped "

abbrev pub missing : List ℕ
missing = ascii " missing"

abbrev pub at : List ℕ
at = ascii " at "

abbrev pub space : List ℕ
space = ascii " "

abbrev pub line_end : List ℕ
line_end = ascii "\n"
