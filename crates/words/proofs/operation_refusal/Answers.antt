use native.Mathlib.Omega.{arith}
use borrow.Author.Tests.{le-leb, lt-leb}
use Rattle.words.specs.Check.{operation_refusal}
use Rattle.words.proofs.operation_refusal.Goals as goal

pub returns-in-1-to-11 : goal.returns-in-1-to-11
unfolding operation_refusal
returns-in-1-to-11 c = rw (le-leb 1 c.args.operation (omega arith), le-leb c.args.operation 11 (omega arith))

pub returns-in_default : goal.returns-in_default
unfolding operation_refusal
returns-in_default c = rw (lt-leb 1 c.args.operation (omega arith))

pub returns-in_default-2 : goal.returns-in_default-2
unfolding operation_refusal
returns-in_default-2 c = rw (le-leb 1 c.args.operation (omega arith), lt-leb c.args.operation 11 (omega arith))
