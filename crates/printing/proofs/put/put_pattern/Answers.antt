use mathlib.Core.Path.{ap}
use mathlib.Core.Bool.{not}
use native.Mathlib.Omega.{arith}
use lib.ListN.{length}
use Rattle.numbers.specs.Number.{pattern_of}
use Rattle.printing.specs.Text.{pattern}
use Rattle.printing.specs.Put.{pattern_limit}
use Rattle.printing.proofs.Decimals.{length-pattern}
use Rattle.printing.proofs.Putting.{within, room_in_lem, not_put, is-put, no_room, has_room, room-is}
use Rattle.printing.proofs.put.put_pattern.Goals as goal

pub returns-then-not-has_room : goal.returns-then-not-has_room
returns-then-not-has_room c =
    let a = c.args in
    not_put (no_room pattern_limit (length a.out.now) a.at c.has_room.ensures (ap not c.if-not-has_room.true)) (omega (arith, length-pattern (pattern_of a.number)))

pub lay_hexadecimal-requires : goal.lay_hexadecimal-requires
unfolding pattern
lay_hexadecimal-requires c =
    let a = c.args in
    let fits = has_room pattern_limit (length a.out.now) a.at c.has_room.ensures (ap not c.if-not-has_room.false) in
    rw c.pattern_of.ensures
    (room_in_lem pattern_limit (pattern (pattern_of a.number)) (room-is pattern_limit (length a.out.now) a.at fits) (omega (arith, length-pattern (pattern_of a.number))))

pub returns : goal.returns
unfolding pattern
returns c =
    let a = c.args in
    let p = c.pattern_of.ensures in
    is-put (has_room pattern_limit (length a.out.now) a.at c.has_room.ensures (ap not c.if-not-has_room.false))
    (within pattern_limit (rw p at c.lay_hexadecimal.ensures) (omega (arith, length-pattern (pattern_of a.number))))
