-- The answers of the code as those of the reader's and the writer's definitions.
use Rattle.std.specs.Prelude.{Result, Ok, Err}
use Rattle.words.specs.declared.refusal.Refused.{Refused}
use Rattle.words.specs.Refusals.{number}
use Rattle.list_file.specs.declared.ListRead as code
use Rattle.list_file.specs.declared.Written as written
use Rattle.list_file.specs.Reading.{ListRead}
use Rattle.list_file.specs.Writing.{Written}

-- "a refused one count 0"
abbrev pub told_read : Result code.ListRead Refused → ListRead
told_read (Ok r) = record { count = r.count; refusal = 0; place = r.place }
told_read (Err e) = record { count = 0; refusal = number e.refusal; place = e.place }

-- "0 when refused"
abbrev pub told_written : Result written.Written Refused → Written
told_written (Ok w) = record { length = w.length; refusal = 0; place = w.place }
told_written (Err e) = record { length = 0; refusal = number e.refusal; place = e.place }
