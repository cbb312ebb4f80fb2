use Rattle.std.proofs.Common.{◌-◌, length}
use Rattle.machine_parts.specs.View.{view}
use Rattle.machine_take.specs.Changes.{view_lent}
use Rattle.machine_take.specs.Taking.{take_from}
use Rattle.machine_take.proofs.Takes.{Here}
use Rattle.machine_take.proofs.taking.until_release.Given as goal

abbrev pub invariant-loop-taken : goal.invariant-loop-taken
invariant-loop-taken l =
    let L = view_lent l.lent in
    let t = l.initial.taken in
    Here L l.room l.schedule (take_from L l.room l.schedule (length l.schedule) (view t.machine) t.steps t.place) (view l.taken.machine) l.taken.steps l.taken.place

abbrev pub decreases-loop-taken : goal.decreases-loop-taken
decreases-loop-taken l = length l.schedule - l.taken.place
