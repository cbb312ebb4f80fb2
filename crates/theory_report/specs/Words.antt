-- The words of a report's own lines.
use Rattle.std.specs.Prelude.{List, ℕ}
use Rattle.printing.specs.Ascii.{ascii}

abbrev pub list : List ℕ
list = ascii "list"

abbrev pub operands : List ℕ
operands = ascii "operands"

abbrev pub schedule : List ℕ
schedule = ascii "schedule"

abbrev pub areas : List ℕ
areas = ascii "areas"

abbrev pub steps : List ℕ
steps = ascii "steps "

abbrev pub refusal : List ℕ
refusal = ascii "refusal "

abbrev pub left : List ℕ
left = ascii "left "

abbrev pub log : List ℕ
log = ascii "log "

abbrev pub register : List ℕ
register = ascii "F"

abbrev pub tagged : List ℕ
tagged = ascii "tag "
