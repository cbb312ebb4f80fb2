use mathlib.Core.Path.{refl, ap, ◌∙◌}
use mathlib.Core.List.{◌++◌}
use Prim.Native.Nat.{◌/◌}
use native.Mathlib.Omega.{arith}
use lib.ListN.{length, drop}
use lib.Seq.{length-take-le}
use Rattle.words.proofs.Refusals.{number_real, handed_on}
use Rattle.operands_file.specs.Operands.{numbers_at}
use Rattle.operands_file.specs.Answers.{told_read}
use Rattle.operands_file.proofs.Answered.{read_refused, read_no_room, read_stored}
use Rattle.operands_file.proofs.read_operands.Goals as goal

pub returns-in_err-place : goal.returns-in_err-place
returns-in_err-place c =
    let r = read_refused c.args.bytes.now c.args.cells.now c.in_err-place.ensures (number_real _) in
    (ap told_read (handed_on _ _ c.from_residual.ensures.1) ∙ r.0, r.1)

pub returns-then-cells-count : goal.returns-then-cells-count
returns-then-cells-count c =
    let r = read_no_room c.args.bytes.now c.args.cells.now c.in_ok-place.ensures refl c.if-cells-count.true in
    (rw c.at.ensures r.0, r.1)

pub store_numbers-requires : goal.store_numbers-requires
store_numbers-requires c = omega (arith, length-take-le (length c.args.bytes.now / 8) c.args.cells.now c.if-cells-count.false)

pub returns : goal.returns
returns c =
    let bytes = c.args.bytes.now in
    let n = length-take-le (length bytes / 8) c.args.cells.now c.if-cells-count.false in
    read_stored bytes c.args.cells.now c.in_ok-place.ensures refl c.if-cells-count.false
    (ap (λ cells. cells ++ drop (length bytes / 8) c.args.cells.now) (c.store_numbers.ensures ∙ ap (λ count. numbers_at count bytes 0) n))
