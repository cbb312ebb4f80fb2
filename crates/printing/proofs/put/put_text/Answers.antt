use mathlib.Core.Bool.{not}
use mathlib.Core.Path.{◌∙◌, ap}
use native.Mathlib.Omega.{arith}
use lib.ListN.{length}
use Rattle.printing.proofs.Putting.{copied, within, is-put, asked_as, has_room, room-is}
use Rattle.printing.proofs.put.put_text.Goals as goal

pub returns : goal.returns
returns c =
    let a = c.args in
    let size = length a.text.now in
    let fits = has_room size (length a.out.now) a.at (c.has_room.ensures ∙ asked_as _ size (length a.out.now) a.at (omega arith)) (ap not c.if-not-has_room.false) in
    is-put fits (within size (copied a.text.now (room-is size (length a.out.now) a.at fits) c.copy_from_slice.ensures.after) (omega arith))
