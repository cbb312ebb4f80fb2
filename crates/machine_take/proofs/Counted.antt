-- Steps are counted from the place where codes are taken: steps before can be added, and there are no more than bytes.
use mathlib.Core.Path.{◌≡◌, refl}
use mathlib.Core.Bool.{Bool, cond, not}
use mathlib.Core.Option.{Option, none, some}
use mathlib.Core.List.{List}
use Prim.Native.Nat.{ℕ, zero, suc, ◌+◌, ◌-◌, ◌≤◌, ◌<◌}
use native.Mathlib.Omega.{arith}
use lib.Dec.{leb}
use lib.Ieee.{Float}
use lib.ListN.{length}
use borrow.Author.Tests.{leb-false}
use Rattle.seven_bit.specs.SevenBits.{Parsed, accepted, refused, number_at}
use Rattle.theory_machine.specs.Machine.{Lent, Machine, Record}
use Rattle.theory_machine.specs.Binary64.{binary64}
use Rattle.theory_machine.specs.Issue.{Answer, is_taken}
use Rattle.theory_machine.specs.Steps.{perform}
use Rattle.theory_machine.proofs.Rows.{cond_cases, both_cases}
use Rattle.machine_take.specs.Taking.{Taken, ended_at, by_number, by_release, after_step, take_from}
use Rattle.machine_take.proofs.Forwards.{moves_on}

abbrev pub counted : (before : ℕ) → Taken → Taken
counted before t = record { machine = t.machine; steps = before + t.steps; place = t.place; refusal = t.refusal; released = t.released }

module _ (L : Lent Float) (room : Bool) (schedule : List ℕ) where
  -- at a release, where its record has room
  abbrev Out : Machine Float → (steps next : ℕ) → Record Float → Taken
  Out m steps next r = record { machine = m; steps = suc steps; place = next; refusal = 0; released = some r }

  module _ (before : ℕ) where
    abbrev After : Taken → Taken → Type 0
    After t u = t ≡ counted before u

    module _ (m : Machine Float) (s t place : ℕ) (e : s ≡ before + t) where
      stop-after : (number : ℕ) → After (ended_at m s place number) (ended_at m t place number)
      stop-after number = λ i. ended_at m (e i) place number

      out-after : (n : Machine Float) (next : ℕ) (r : Record Float) → After (Out n s next r) (Out n t next r)
      out-after n next r = let z : suc s ≡ before + suc t = omega arith in λ i. record { machine = n; steps = z i; place = next; refusal = 0; released = some r }

      module _ (on on' : (next : ℕ) → Machine Float → Taken) (later : (next : ℕ) (n : Machine Float) → After (on next n) (on' next n)) where
        by-release : (next : ℕ) (n : Machine Float) (o : Option (Record Float))
            → After (by_release o (on next n) (λ r. cond room (Out n s next r) (ended_at m s place 11))) (by_release o (on' next n) (λ r. cond room (Out n t next r) (ended_at m t place 11)))
        by-release next n none = later next n
        by-release next n (some r) = both_cases After room (λ _. out-after n next r) (λ _. stop-after 11)

        by_answer : (next : ℕ) (a : Answer Float) → After (after_step L room schedule m s place next a (on next)) (after_step L room schedule m t place next a (on' next))
        by_answer next a = both_cases After (not (is_taken a)) (λ _. stop-after a.refusal) (λ _. by-release next a.machine a.released)

        by_number_lem : (p : Parsed ℕ)
            → After (by_number p (λ number. ended_at m s place number) (λ code next. after_step L room schedule m s place next (perform binary64 L m code) (on next)))
            (by_number p (λ number. ended_at m t place number) (λ code next. after_step L room schedule m t place next (perform binary64 L m code) (on' next)))
        by_number_lem (refused number at) = stop-after number
        by_number_lem (accepted code next) = by_answer next (perform binary64 L m code)

    pub counted_on : (k : ℕ) (m : Machine Float) (s t place : ℕ) → s ≡ before + t
        → take_from L room schedule k m s place ≡ counted before (take_from L room schedule k m t place)
    unfolding take_from
    counted_on zero m s t place e = stop-after m s t place e 0
    counted_on (suc k) m s t place e =
        both_cases After (leb (length schedule) place) (λ _. stop-after m s t place e 0)
        (λ _. by_number_lem m s t place e (λ next n. take_from L room schedule k n (suc s) next) (λ next n. take_from L room schedule k n (suc t) next)
        (λ next n. counted_on k n (suc s) (suc t) next (omega arith)) (number_at schedule place))

  module _ (m : Machine Float) (s place : ℕ) (inside : place < length schedule) where
    abbrev Few : Taken → Type 0
    Few t = t.steps ≤ s + (length schedule - place)

    module _ (on : (next : ℕ) → Machine Float → Taken) (later : (next : ℕ) (n : Machine Float) → (on next n).steps ≤ suc s + (length schedule - next)) where
      few-answer : (next : ℕ) → place < next → (a : Answer Float) → Few (after_step L room schedule m s place next a (on next))
      few-answer next h a = cond_cases Few (not (is_taken a)) (λ _. omega arith) (λ _. by-release a.released)
        where
          by-release : (o : Option (Record Float)) → Few (by_release o (on next a.machine) (λ r. cond room (Out a.machine s next r) (ended_at m s place 11)))
          by-release none = omega (arith, later next a.machine)
          by-release (some r) = cond_cases Few room (λ _. omega arith) (λ _. omega arith)

      few-number : (p : Parsed ℕ) → number_at schedule place ≡ p
          → Few (by_number p (λ number. ended_at m s place number) (λ code next. after_step L room schedule m s place next (perform binary64 L m code) (on next)))
      few-number (refused number at) e = omega arith
      few-number (accepted code next) e = few-answer next (moves_on schedule place e) (perform binary64 L m code)

  pub few-steps : (k : ℕ) (m : Machine Float) (s place : ℕ) → (take_from L room schedule k m s place).steps ≤ s + (length schedule - place)
  unfolding take_from
  few-steps zero m s place = omega arith
  few-steps (suc k) m s place =
      cond_cases (λ (t : Taken). t.steps ≤ s + (length schedule - place)) (leb (length schedule) place) (λ _. omega arith)
      (λ q. few-number m s place (leb-false (length schedule) place q) (λ next n. take_from L room schedule k n (suc s) next) (λ next n. few-steps k n (suc s) next) (number_at schedule place) refl)
