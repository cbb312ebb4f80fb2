use Rattle.std.proofs.Common.{sym, ◌∙◌, arith}
use Rattle.machine_bus.proofs.Given.{slot_more}
use Rattle.machine_bus.proofs.give.Goals as goal
use Rattle.machine_bus.proofs.give.Goals.{then-waits, else-waits}

pub loop-slot-preserved : goal.loop-slot-preserved
loop-slot-preserved g c =
    let l = c.loop-slot in
    let more = slot_more (g.T.Waits.given c.args.tag.0 c.args.number) c.args.row.now l.row l.slot-index c.slot-item.result (omega arith) (omega arith) l.invariant.1 in
    elim c.if-waits.branch [
      | then-waits w ↦ (omega arith, rw w.row-is (more _ w.given.ensures))
      | else-waits w ↦ (omega arith, rw w.row-is (more _ (sym (g.met.T.Waits.keeps c.args.tag.0 c.args.number _ (sym c.waits.ensures ∙ w.if-waits.false)))))
    ]
