use mathlib.Core.Path.{refl}
use Rattle.words.proofs.Refusals.{number_real}
use Rattle.theory_machine.specs.Binary64.{binary64}
use Rattle.machine_parts.proofs.Checked.{fresh-refused, fresh-taken}
use Rattle.machine_parts.proofs.start.fresh.Goals as goal

pub returns-in-Ok : goal.returns-in-Ok
returns-in-Ok c = rw c.empty_machine.ensures (fresh-taken binary64 _ (rw c.of.ensures at c.in-Ok.ensures) refl _)

pub returns-in-Err : goal.returns-in-Err
returns-in-Err c = rw c.empty_machine-in-Err.ensures (fresh-refused binary64 _ (rw c.of.ensures at c.in-Err.ensures) (number_real _) _)
