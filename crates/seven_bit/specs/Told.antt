-- Of an answer that is a value or a refusal: document 01's number and values for each case.
use Rattle.std.specs.Prelude.{ℕ, Result, Ok, Err}
use Rattle.words.specs.declared.refusal.Refused.{Refused}
use Rattle.words.specs.Refusals.{number}
use Rattle.seven_bit.specs.declared.Parsed as code
use Rattle.seven_bit.specs.SevenBits.{Parsed, accepted, refused}

abbrev pub told : Result code.Parsed Refused → Parsed ℕ
told (Ok p) = accepted p.value p.next
told (Err r) = refused (number r.refusal) r.place
