use Rattle.std.proofs.Common.{◌≡◌, map, ◌++◌, take, drop, ◌≤◌, length}
use Rattle.machine_bus.proofs.give.Given as goal

abbrev pub invariant-loop-slot : goal.invariant-loop-slot
invariant-loop-slot g l =
    (l.slot-index ≤ length l.row) × (l.row ≡ map (g.T.Waits.given l.tag.0 l.number) (take l.slot-index l.initial.row) ++ drop l.slot-index l.initial.row)
