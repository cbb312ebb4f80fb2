-- One stop of a run, of the definition: at a release it goes on with the record stored, else it is over.
use mathlib.Core.Path.{◌≡◌, sym, ap, ◌∙◌}
use Prim.Native.Nat.{ℕ, suc}
use mathlib.Core.Bool.{Bool, true, false}
use mathlib.Core.List.{List}
use lib.ListN.{set}
use lib.Ieee.{Float}
use Rattle.machine_parts.specs.declared.Record.{Record}
use Rattle.machine_steps.specs.Advance.{Progress, Stop, advanced, cells_after}
use Rattle.lent_run.specs.ByReleases.{runs, pick}

module _ (words : List ℕ) (operands : List Float) (schedule : List ℕ) (room : ℕ) where
  pub goes_on_lem : (k : ℕ) (r : Progress) (cells : List Float) (log : List Record) (s : Stop) (cells' : List Float) → s ≡ advanced r words operands cells schedule room → cells' ≡ cells_after r words operands cells schedule room → s.released ≡ true
      → runs k s.progress words operands cells' schedule room (set log s.index s.made) ≡ runs (suc k) r words operands cells schedule room log
  unfolding runs
  goes_on_lem k r cells log s cells' e e' h =
      sym (ap (λ (t : Bool). pick t (runs k s.progress words operands cells' schedule room (set log s.index s.made)) (record { run = s.progress; cells = cells'; log = log })) h)
      ∙ (λ i. pick (e i).released (runs k (e i).progress words operands (e' i) schedule room (set log (e i).index (e i).made)) (record { run = (e i).progress; cells = e' i; log = log }))

  pub is-over : (k : ℕ) (r : Progress) (cells : List Float) (log : List Record) (s : Stop) (cells' : List Float) → s ≡ advanced r words operands cells schedule room → cells' ≡ cells_after r words operands cells schedule room → s.released ≡ false
      → record { run = s.progress; cells = cells'; log = log } ≡ runs (suc k) r words operands cells schedule room log
  unfolding runs
  is-over k r cells log s cells' e e' h =
      sym (ap (λ (t : Bool). pick t (runs k s.progress words operands cells' schedule room (set log s.index s.made)) (record { run = s.progress; cells = cells'; log = log })) h)
      ∙ (λ i. pick (e i).released (runs k (e i).progress words operands (e' i) schedule room (set log (e i).index (e i).made)) (record { run = (e i).progress; cells = e' i; log = log }))
