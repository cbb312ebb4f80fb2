-- The answer of the one-at-a-time run as that of crate theory_machine at binary64.
use Rattle.std.specs.Prelude.{List, Float}
use Rattle.words.specs.Refusals.{answer_number}
use Rattle.theory_machine.specs.OneAtATime.{Run}
use Rattle.theory_machine.specs.Entries as theory
use Rattle.one_at_a_time.specs.declared.OneAtATime.{OneAtATime}

abbrev pub at : (registers cells : List Float) → Run Float
at registers cells = record { registers = registers; cells = cells }

-- the registers with the result cells as the run leaves them
abbrev pub view_one_at_a_time : OneAtATime → (cells : List Float) → theory.OneAtATime Float
view_one_at_a_time r cells = record { refusal = answer_number r.outcome; run = at r.registers cells }
