use mathlib.Core.Path.{ap}
use native.Mathlib.Omega.{arith}
use native.Mathlib.Numerals.{add-one, add-two}
use lib.ListN.{length, length-set}
use Rattle.seven_bit.proofs.Shortest.{bytes_one, bytes_two, bytes_three, few_bytes, two_or_more}
use Rattle.seven_bit.proofs.Put.{put_large, put-short, put_there}
use Rattle.seven_bit.proofs.put_number.Goals as goal

pub returns-then-bytes-at : goal.returns-then-bytes-at
returns-then-bytes-at c = put-short _ _ _ (omega (arith, c.if-bytes-at.true, (few_bytes c.args.value).0))

pub returns-then-value-lt-FOLLOWS : goal.returns-then-value-lt-FOLLOWS
returns-then-value-lt-FOLLOWS c =
    let e = bytes_one _ c.if-value-lt-FOLLOWS.true in
    put_there _ _ _ (omega (arith, c.if-value-lt-FOLLOWS.true)) (omega (arith, c.if-bytes-at.false, ap length e)) (rw e) (rw e)

pub returns-then-left-lt2 : goal.returns-then-left-lt2
returns-then-left-lt2 c = put-short _ _ _ (omega (arith, c.if-left-lt2.true, two_or_more _ c.if-value-lt-FOLLOWS.false))

pub bounds-bytes-at-then-second-lt-FOLLOWS-2 : goal.bounds-bytes-at-then-second-lt-FOLLOWS-2
bounds-bytes-at-then-second-lt-FOLLOWS-2 c = simp length-set (omega (arith, c.if-left-lt2.false))

pub returns-then-second-lt-FOLLOWS : goal.returns-then-second-lt-FOLLOWS
returns-then-second-lt-FOLLOWS c =
    let e = bytes_two _ c.if-value-lt-FOLLOWS.false c.if-second-lt-FOLLOWS.true in
    put_there _ _ _ (omega (arith, c.if-second-lt-FOLLOWS.true)) (omega (arith, c.if-left-lt2.false, ap length e)) (rw e) (rw (e, c.following.ensures, add-one))

pub returns-then-left-lt3 : goal.returns-then-left-lt3
returns-then-left-lt3 c =
    let e = bytes_three _ c.if-value-lt-FOLLOWS.false c.if-second-lt-FOLLOWS.false in
    put-short _ _ _ (omega (arith, c.if-left-lt3.true, ap length e))

pub returns-then-value-gt-NUMBER_LIMIT : goal.returns-then-value-gt-NUMBER_LIMIT
returns-then-value-gt-NUMBER_LIMIT c = put_large _ _ _ c.if-value-gt-NUMBER_LIMIT.true

pub bounds-bytes-at-3 : goal.bounds-bytes-at-3
bounds-bytes-at-3 c = simp length-set (omega (arith, c.if-left-lt3.false))

pub bounds-bytes-at-4 : goal.bounds-bytes-at-4
bounds-bytes-at-4 c = simp length-set (omega (arith, c.if-left-lt3.false))

pub returns : goal.returns
returns c =
    let e = bytes_three _ c.if-value-lt-FOLLOWS.false c.if-second-lt-FOLLOWS.false in
    put_there _ _ _ c.if-value-gt-NUMBER_LIMIT.false (omega (arith, c.if-left-lt3.false, ap length e))
    (rw e) (rw (e, c.following-2.ensures, c.following-3.ensures, add-one, add-two))
