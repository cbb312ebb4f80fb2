use mathlib.Core.Path.{ap}
use mathlib.Core.Bool.{not}
use native.Mathlib.Omega.{arith}
use lib.ListN.{length}
use Rattle.printing.specs.Put.{answer_limit}
use Rattle.printing.proofs.Sizes.{answer_size}
use Rattle.printing.proofs.Putting.{not_put, is-put, no_room, has_room, room-is, first-put, then-put}
use Rattle.printing.proofs.lines.put_answer.Goals as goal

pub returns-then-not-has_room : goal.returns-then-not-has_room
returns-then-not-has_room c =
    let a = c.args in
    not_put (no_room answer_limit (length a.out.now) a.at c.has_room.ensures (ap not c.if-not-has_room.true)) (answer_size a.number a.place (omega arith) (omega arith))

-- where a part of the line has been put has that part's name, `to-` and the name is the line up to it, and `test` is where room has been found
pub returns : goal.returns
returns c =
    let a = c.args in
    let fits = has_room answer_limit (length a.out.now) a.at c.has_room.ensures (ap not c.if-not-has_room.false) in
    let room = room-is answer_limit (length a.out.now) a.at fits in
    let to_number = first-put answer_limit room c.put_decimal-second.ensures (omega arith) in
    let to-between = then-put answer_limit room to_number c.put_text-third.ensures (omega arith) in
    let to-place = then-put answer_limit room to-between c.put_decimal-fourth.ensures (omega arith) in
    is-put fits (then-put answer_limit room to-place c.put_text.ensures (omega arith))
