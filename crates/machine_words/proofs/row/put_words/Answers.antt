use mathlib.Core.Path.{sym}
use native.Mathlib.Omega.{arith}
use Rattle.machine_words.proofs.Rows.{sets_out}
use Rattle.machine_words.proofs.row.put_words.Goals as goal

pub returns-then-row-place : goal.returns-then-row-place
returns-then-row-place c = let a = c.args in sym (sets_out a.row.now a.place a.words.now c.if-row-place.true)

pub overflow_add-place : goal.overflow_add-place
overflow_add-place c = omega (arith, c.if-row-place.false, c.loop-i-test.true, c.well_formed.0.0, c.well_formed.1.1.0.0)
