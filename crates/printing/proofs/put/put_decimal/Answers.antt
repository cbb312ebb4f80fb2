use mathlib.Core.Path.{ap}
use mathlib.Core.Bool.{not}
use native.Mathlib.Omega.{arith}
use lib.ListN.{length}
use Rattle.printing.specs.Text.{decimal}
use Rattle.printing.specs.Put.{decimal_limit}
use Rattle.printing.proofs.Decimals.{decimal_size}
use Rattle.printing.proofs.Putting.{within, room_in_lem, not_put, is-put, no_room, has_room, room-is}
use Rattle.printing.proofs.put.put_decimal.Goals as goal

pub returns-then-not-has_room : goal.returns-then-not-has_room
returns-then-not-has_room c =
    let a = c.args in
    not_put (no_room decimal_limit (length a.out.now) a.at c.has_room.ensures (ap not c.if-not-has_room.true)) (decimal_size a.n (omega arith))

pub lay_decimal-requires : goal.lay_decimal-requires
lay_decimal-requires c =
    let a = c.args in
    let fits = has_room decimal_limit (length a.out.now) a.at c.has_room.ensures (ap not c.if-not-has_room.false) in
    room_in_lem decimal_limit (decimal a.n) (room-is decimal_limit (length a.out.now) a.at fits) (decimal_size a.n (omega arith))

pub returns : goal.returns
returns c =
    let a = c.args in
    is-put (has_room decimal_limit (length a.out.now) a.at c.has_room.ensures (ap not c.if-not-has_room.false))
    (within decimal_limit c.lay_decimal.ensures (decimal_size a.n (omega arith)))
