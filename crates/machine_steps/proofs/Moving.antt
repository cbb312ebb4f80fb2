-- A run that stops at a release has gone on in the schedule.
use mathlib.Core.Path.{◌≡◌, refl, sym}
use mathlib.Core.Bool.{Bool, true, false, cond, not, true≢false}
use mathlib.Core.Option.{Option, none, some}
use mathlib.Core.List.{List}
use Prim.Native.Nat.{ℕ, zero, suc, ◌<◌}
use native.Mathlib.Omega.{arith}
use lib.Dec.{leb}
use lib.Ieee.{Float}
use lib.ListN.{length}
use borrow.Author.Tests.{leb-false}
use Rattle.seven_bit.specs.SevenBits.{Parsed, accepted, refused, number_at}
use Rattle.machine_parts.specs.View.{lent_with}
use Rattle.theory_machine.specs.Machine.{Lent, Machine, Record}
use Rattle.theory_machine.specs.Issue.{Answer, is_taken}
use Rattle.theory_machine.specs.Binary64.{binary64}
use Rattle.theory_machine.specs.Steps.{perform}
use Rattle.theory_machine.proofs.Rows.{cond_cases}
use Rattle.machine_take.specs.Taking.{Taken, ended_at, by_number, by_release, after_step, take_from}
use Rattle.machine_steps.specs.Advance as advance
use Rattle.machine_steps.specs.Advance.{Progress, Stop, taken_on, goes, advanced}
use Rattle.machine_take.proofs.Forwards.{moves_on}

module _ (schedule : List ℕ) where
  -- if anything was released: by a code at a place of the schedule, and now beyond it
  abbrev Moved : (from to : ℕ) → Option (Record Float) → Type 0
  Moved from to none = Unit
  Moved from to (some r) = (from < length schedule) × (from < to)

  raise : (from mid to : ℕ) → from < length schedule → from < mid → (o : Option (Record Float)) → Moved mid to o → Moved from to o
  raise from mid to a b none m = tt
  raise from mid to a b (some r) m = (a, omega (arith, m.1))

  module _ (L : Lent Float) (room : Bool) (m : Machine Float) (steps place : ℕ) (inside : place < length schedule) where
    module _ (next : ℕ) (h : place < next) (onward : Machine Float → Taken) (later : (n : Machine Float) → Moved next (onward n).place (onward n).released) where
      at_room : (b : Bool) (n : Machine Float) (r : Record Float)
          → let t = cond b (record { machine = n; steps = suc steps; place = next; refusal = 0; released = some r }) (ended_at m steps place 11) in Moved place t.place t.released
      at_room true n r = (inside, h)
      at_room false n r = tt

      by-release : (o : Option (Record Float)) (n : Machine Float)
          → let t = by_release o (onward n) (λ r. cond room (record { machine = n; steps = suc steps; place = next; refusal = 0; released = some r }) (ended_at m steps place 11)) in
          Moved place t.place t.released
      by-release none n = raise place next (onward n).place inside h (onward n).released (later n)
      by-release (some r) n = at_room room n r

      by_answer : (a : Answer Float) → let t = after_step L room schedule m steps place next a onward in Moved place t.place t.released
      by_answer a = cond_cases (λ (t : Taken). Moved place t.place t.released) (not (is_taken a)) (λ _. tt) (λ _. by-release a.released a.machine)

    by_number_lem : (onward : (next : ℕ) → Machine Float → Taken) → ((next : ℕ) (n : Machine Float) → Moved next (onward next n).place (onward next n).released)
        → (p : Parsed ℕ) → number_at schedule place ≡ p
        → let t = by_number p (λ number. ended_at m steps place number) (λ code next. after_step L room schedule m steps place next (perform binary64 L m code) (onward next)) in
        Moved place t.place t.released
    by_number_lem onward later (refused number at) e = tt
    by_number_lem onward later (accepted code next) e = by_answer next (moves_on schedule place e) (onward next) (later next) (perform binary64 L m code)

  moved : (L : Lent Float) (room : Bool) (k : ℕ) (m : Machine Float) (steps place : ℕ)
      → Moved place (take_from L room schedule k m steps place).place (take_from L room schedule k m steps place).released
  unfolding take_from
  moved L room zero m steps place = tt
  moved L room (suc k) m steps place =
      cond_cases (λ (t : Taken). Moved place t.place t.released) (leb (length schedule) place) (λ _. tt)
      (λ f. by_number_lem L room m steps place (leb-false (length schedule) place f) (λ next n. take_from L room schedule k n (suc steps) next)
      (λ next n. moved L room k n (suc steps) next) (number_at schedule place) refl)

module _ (p : Progress) (words : List ℕ) (operands cells : List Float) (schedule : List ℕ) (room : ℕ) where
  abbrev Onward : Stop → Type 0
  Onward s = s.released ≡ true → (p.place < length schedule) × (p.place < s.progress.place)

  at-stop : (t : Taken) (o : Option (Record Float)) → Moved schedule p.place t.place o → Onward (advance.stop_of p t o)
  at-stop t none m h = absurd (true≢false (sym h))
  at-stop t (some r) m h = m

  pub advance_moves : Onward (advanced p words operands cells schedule room)
  unfolding advanced
  advance_moves =
      let t = taken_on p words operands cells schedule room in
      cond_cases Onward (goes p words operands cells schedule room)
      (λ _. at-stop t t.released (moved schedule (lent_with words operands (length cells)) _ (length schedule) _ p.steps p.place)) (λ _ h. absurd (true≢false (sym h)))
