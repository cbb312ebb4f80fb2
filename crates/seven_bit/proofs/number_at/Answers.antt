use native.Mathlib.Omega.{arith}
use Rattle.seven_bit.proofs.NumberAt.{at_end, at_one, at-cut_one, at_zero_second, at-two, at-cut-two, at_zero_third, at_large_third, at_three}
use Rattle.seven_bit.proofs.number_at.Goals as goal

pub returns-then-bytes-at : goal.returns-then-bytes-at
returns-then-bytes-at c = rw c.cut.ensures (at_end _ _ c.if-bytes-at.true)

pub returns-then-low-lt-FOLLOWS : goal.returns-then-low-lt-FOLLOWS
returns-then-low-lt-FOLLOWS c = at_one _ _ c.from-low.ensures c.if-bytes-at.false c.if-low-lt-FOLLOWS.true

pub returns-then-left-le1 : goal.returns-then-left-le1
returns-then-left-le1 c = rw c.cut-then-left-le1.ensures (at-cut_one _ _ c.from-low.ensures c.if-low-lt-FOLLOWS.false (omega arith))

pub returns-then-middle-eq0 : goal.returns-then-middle-eq0
returns-then-middle-eq0 c =
    rw c.at.ensures
    (at_zero_second _ _ c.from-low.ensures c.if-low-lt-FOLLOWS.false c.from-middle.ensures (omega arith) c.if-middle-eq0.true)

pub returns-then-middle-lt-FOLLOWS : goal.returns-then-middle-lt-FOLLOWS
returns-then-middle-lt-FOLLOWS c =
    rw c.join.ensures
    (at-two _ _ c.from-low.ensures c.if-low-lt-FOLLOWS.false c.from-middle.ensures (omega arith) c.if-middle-eq0.false c.if-middle-lt-FOLLOWS.true)

pub returns-then-left-le2 : goal.returns-then-left-le2
returns-then-left-le2 c =
    rw c.cut-then-left-le2.ensures
    (at-cut-two _ _ c.from-low.ensures c.if-low-lt-FOLLOWS.false c.from-middle.ensures c.if-middle-lt-FOLLOWS.false (omega arith))

pub returns-then-high-eq0 : goal.returns-then-high-eq0
returns-then-high-eq0 c =
    rw c.at-then-high-eq0.ensures
    (at_zero_third _ _ c.from-low.ensures c.if-low-lt-FOLLOWS.false c.from-middle.ensures c.if-middle-lt-FOLLOWS.false c.from-high.ensures
    (omega arith) c.if-high-eq0.true)

pub returns-then-high-gt-THIRD_LIMIT : goal.returns-then-high-gt-THIRD_LIMIT
returns-then-high-gt-THIRD_LIMIT c =
    rw c.at-then-high-gt-THIRD_LIMIT.ensures
    (at_large_third _ _ c.from-low.ensures c.if-low-lt-FOLLOWS.false c.from-middle.ensures c.if-middle-lt-FOLLOWS.false c.from-high.ensures
    (omega arith) c.if-high-gt-THIRD_LIMIT.true)

pub returns : goal.returns
returns c =
    rw (c.join-3.ensures, c.join-2.ensures)
    (at_three _ _ c.from-low.ensures c.if-low-lt-FOLLOWS.false c.from-middle.ensures c.if-middle-lt-FOLLOWS.false c.from-high.ensures
    (omega arith) c.if-high-eq0.false c.if-high-gt-THIRD_LIMIT.false)
