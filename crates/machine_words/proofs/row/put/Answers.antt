use mathlib.Core.Path.{sym}
use lib.Seq.{set_out}
use Rattle.machine_words.proofs.row.put.Goals as goal

pub returns-else-place-row : goal.returns-else-place-row
returns-else-place-row g c = sym (set_out _ _ _ c.if-place-row.false)
