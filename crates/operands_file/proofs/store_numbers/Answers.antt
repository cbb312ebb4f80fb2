use mathlib.Core.Path.{refl, ◌∙◌}
use native.Mathlib.Omega.{arith}
use Rattle.operands_file.proofs.Joining.{pattern_worth, laying_none, laying_more, laying_all}
use Rattle.operands_file.proofs.store_numbers.Goals as goal

pub loop-i-init : goal.loop-i-init
loop-i-init c = laying_none _ _ _

pub loop-i-preserved : goal.loop-i-preserved
loop-i-preserved c =
    rw (c.number_of.ensures, c.from_be_bytes.ensures ∙ pattern_worth c.args.bytes.now c.loop-i.i (omega (arith, c.requires, c.loop-i-test.true)) _ c.as_chunks.ensures.front)
    (laying_more c.loop-i.invariant c.loop-i-test.true)

pub returns : goal.returns
returns c = laying_all c.loop-i.invariant c.loop-i-test.false refl
