-- What the loop of a run keeps: with some number of turns that is enough, the run of the definition from here is the whole run.
use mathlib.Core.Path.{◌≡◌, sym, ap, ◌∙◌}
use mathlib.Core.Bool.{true, false}
use mathlib.Core.List.{List}
use Prim.Native.Nat.{ℕ, zero, suc, ◌<◌}
use native.Mathlib.Nat.{not-suc-le-zero}
use native.Mathlib.Omega.{arith}
use lib.Ieee.{Float}
use lib.ListN.{length, set}
use Rattle.machine_parts.specs.declared.Machine.{Machine}
use Rattle.machine_parts.specs.declared.Record.{Record}
use Rattle.machine_steps.specs.Advance.{Progress, Stop, beginning, advanced, cells_after}
use Rattle.lent_run.specs.ByReleases.{Final, runs, left, run_by_releases}
use Rattle.lent_run.proofs.Onward.{progress}
use Rattle.lent_run.proofs.ByReleasesLaws.{goes_on_lem, is-over}

module _ (m : Machine) (words : List ℕ) (operands cells₀ : List Float) (schedule : List ℕ) (log₀ : List Record) where
  abbrev pub whole_run : Final
  whole_run = run_by_releases m words operands cells₀ schedule log₀

  pub record Going (r : Progress) (cells : List Float) (log : List Record) : Type 0 where
    pub turns : ℕ
    pub enough : left r schedule < turns
    pub same : runs turns r words operands cells schedule (length log₀) log ≡ whole_run

  pub begins : {r : Progress} → r ≡ beginning m words operands (length cells₀) → Going r cells₀ log₀
  begins {r} e = record {
    turns = suc (length schedule);
    enough = omega arith;
    same = ap (λ (p : Progress). runs (suc (length schedule)) p words operands cells₀ schedule (length log₀) log₀) e;
  }

  module _ (r : Progress) (cells : List Float) (log : List Record) (s : Stop) (cells' : List Float)
      (e : s ≡ advanced r words operands cells schedule (length log₀)) (e' : cells' ≡ cells_after r words operands cells schedule (length log₀)) where
    -- what is left of the schedule falls
    pub falls : s.released ≡ true → left s.progress schedule < left r schedule
    falls t = rw (ap (λ (x : Stop). left x.progress schedule) e) (progress words operands schedule (length log₀) r cells (ap (λ (x : Stop). x.released) (sym e) ∙ t))

    onward_at : (k : ℕ) → left r schedule < k → runs k r words operands cells schedule (length log₀) log ≡ whole_run → s.released ≡ true
        → Going s.progress cells' (set log s.index s.made)
    onward_at zero h q t = absurd (not-suc-le-zero h)
    onward_at (suc k) h q t =
        let f : left s.progress schedule < left r schedule = falls t in
        record { turns = k; enough = omega arith; same = goes_on_lem words operands schedule (length log₀) k r cells log s cells' e e' t ∙ q }

    over_at : (k : ℕ) → left r schedule < k → runs k r words operands cells schedule (length log₀) log ≡ whole_run → s.released ≡ false
        → record { run = s.progress; cells = cells'; log = log } ≡ whole_run
    over_at zero h q t = absurd (not-suc-le-zero h)
    over_at (suc k) h q t = is-over words operands schedule (length log₀) k r cells log s cells' e e' t ∙ q

    pub onward : Going r cells log → s.released ≡ true → Going s.progress cells' (set log s.index s.made)
    onward g = onward_at g.turns g.enough g.same

    pub over : Going r cells log → s.released ≡ false → record { run = s.progress; cells = cells'; log = log } ≡ whole_run
    over g = over_at g.turns g.enough g.same
