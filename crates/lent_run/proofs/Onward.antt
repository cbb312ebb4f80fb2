-- All that the loop of a run knows of the part that goes on: a stop at a release has gone on in the schedule.
use mathlib.Core.Path.{◌≡◌}
use mathlib.Core.Bool.{true}
use mathlib.Core.List.{List}
use Prim.Native.Nat.{ℕ, ◌<◌}
use native.Mathlib.Omega.{arith}
use lib.Ieee.{Float}
use Rattle.machine_steps.specs.Advance.{Progress, advanced}
use Rattle.machine_steps.proofs.Moving.{advance_moves}
use Rattle.lent_run.specs.ByReleases.{left}

pub progress : (words : List ℕ) (operands : List Float) (schedule : List ℕ) (room : ℕ) (r : Progress) (cells : List Float) → (advanced r words operands cells schedule room).released ≡ true
    → left (advanced r words operands cells schedule room).progress schedule < left r schedule
progress words operands schedule room r cells h =
    let m = advance_moves r words operands cells schedule room h in omega (arith, m.0, m.1)
