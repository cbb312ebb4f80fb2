use mathlib.Core.Path.{ap}
use mathlib.Core.List.{[], ◌∷◌}
use Prim.Native.Nat.{◌/◌, ◌%◌}
use native.Mathlib.Omega.{arith}
use lib.ListN.{length}
use Rattle.printing.specs.Text.{digit, decimal}
use Rattle.printing.proofs.Putting.{put_one, put_then, room-first, room-last, room_after}
use Rattle.printing.proofs.Decimals.{decimal_one, decimal_more}
use Rattle.printing.proofs.put.+lay_decimal.Goals as goal

pub bounds-out-at : goal.bounds-out-at
bounds-out-at t c = omega (arith, c.requires.fits, ap length (decimal_one c.args.n c.if-n-lt10.true))

pub returns-then-n-lt10 : goal.returns-then-n-lt10
returns-then-n-lt10 t c = rw (decimal_one c.args.n c.if-n-lt10.true, c.digit.ensures) (put_one _)

pub lay_decimal-last-requires : goal.lay_decimal-last-requires
lay_decimal-last-requires t c = (
  omega (arith, c.decreases),
  room-first (decimal (c.args.n / 10)) (digit (c.args.n % 10) ∷ []) (rw (decimal_more c.args.n c.if-n-lt10.false) at c.requires),
)

pub bounds-out-last : goal.bounds-out-last
bounds-out-last t c =
    room-last (decimal (c.args.n / 10)) (digit (c.args.n % 10)) (rw (decimal_more c.args.n c.if-n-lt10.false) at c.requires) c.lay_decimal-last.ensures

pub overflow_add-result-2 : goal.overflow_add-result-2
overflow_add-result-2 t c =
    omega (arith, room_after (decimal (c.args.n / 10)) (digit (c.args.n % 10)) (rw (decimal_more c.args.n c.if-n-lt10.false) at c.requires) c.lay_decimal-last.ensures, c.well_formed.0.0)

pub returns : goal.returns
returns t c = rw (decimal_more c.args.n c.if-n-lt10.false, c.digit-2.ensures) (put_then c.lay_decimal-last.ensures (put_one _))
