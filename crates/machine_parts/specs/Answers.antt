-- The answer of a start as that of crate theory_machine at binary64.
use Rattle.std.specs.Prelude.{Float}
use Rattle.words.specs.Refusals.{answer_number}
use Rattle.theory_machine.specs.Entries as theory
use Rattle.machine_parts.specs.declared.start.FreshMachine.{FreshMachine}
use Rattle.machine_parts.specs.View.{view}

abbrev pub view_fresh : FreshMachine → theory.Fresh Float
view_fresh f = record { refusal = answer_number f.outcome; machine = view f.machine }
