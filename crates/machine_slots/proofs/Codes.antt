-- What a read code does.
use mathlib.Core.Path.{◌≡◌, sym, ap}
use Prim.Native.Nat.{ℕ}
use lib.Ieee.{Float}
use Rattle.std.specs.Prelude.{Option}
use Rattle.theory_machine.specs.Machine.{Machine, Lent}
use Rattle.theory_machine.specs.Binary64.{binary64}
use Rattle.theory_machine.specs.Steps.{perform_step, perform}
use Rattle.machine_slots.specs.Slots.{view_read, ReadsAs}
use Rattle.machine_slots.specs.declared.code.Step.{Step}

pub performed : {code : ℕ} {r : Option Step} → ReadsAs code r → (L : Lent Float) (m : Machine Float) → perform binary64 L m code ≡ perform_step binary64 L m (view_read r)
unfolding perform
performed w L m = ap (perform_step binary64 L m) (sym w.step)
