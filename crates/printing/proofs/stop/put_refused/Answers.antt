use mathlib.Core.Path.{ap}
use mathlib.Core.Bool.{not}
use native.Mathlib.Omega.{arith}
use lib.ListN.{length}
use Rattle.printing.specs.Put.{stop_limit}
use Rattle.printing.proofs.Sizes.{refused_size}
use Rattle.printing.proofs.Putting.{in_more, not_put, is-put, no_room, has_room, room-is, first-put, then-put}
use Rattle.printing.proofs.stop.put_refused.Goals as goal

pub returns-then-not-has_room : goal.returns-then-not-has_room
returns-then-not-has_room c =
    let a = c.args in
    not_put (no_room (stop_limit a.name.now) (length a.out.now) a.at c.has_room.ensures (ap not c.if-not-has_room.true)) (refused_size a.name.now a.number a.place (omega arith) (omega arith))

-- where a part of the line has been put has that part's name, `to-` and the name is the line up to it, and `test` is where room has been found
pub returns : goal.returns
returns c =
    let a = c.args in
    let limit = stop_limit a.name.now in
    let fits = has_room limit (length a.out.now) a.at c.has_room.ensures (ap not c.if-not-has_room.false) in
    let room = room-is limit (length a.out.now) a.at fits in
    let to-label = first-put limit room c.put_text-second.ensures (omega arith) in
    let to-name = then-put limit room to-label c.put_text-third.ensures (omega arith) in
    let to-gap = then-put limit room to-name c.put_text-fourth.ensures (omega arith) in
    let to-answer = then-put limit room to-gap c.put_answer.ensures (omega arith) in
    is-put fits (in_more limit to-answer (omega arith))
