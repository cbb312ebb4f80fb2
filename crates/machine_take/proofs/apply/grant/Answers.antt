use Rattle.machine_take.proofs.Stored.{rows_given}
use Rattle.machine_take.proofs.apply.grant.Goals as goal

pub returns : goal.returns
returns c = rows_given c.args.m.now c.args.tag.0 c.args.number c.give.ensures c.give-2.ensures c.give-3.ensures
