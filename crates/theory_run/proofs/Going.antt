-- What the turns of a run come to, from any state at any place: by recursion on the turns that are left.
use mathlib.Core.Path.{◌≡◌, refl, ap}
use mathlib.Core.Bool.{true, false, not, ◌&&◌}
use mathlib.Core.Option.{Option, none, some}
use mathlib.Core.Logic.{◌≢◌}
use mathlib.Core.List.{List, [], ◌∷◌}
use Prim.Native.Nat.{ℕ, zero, suc, ◌+◌, ◌≤◌, ◌<◌}
use native.Mathlib.Omega.{arith}
use lib.Dec.{leb}
use lib.ListN.{length, length-append}
use borrow.Author.Tests.{leb-true, leb-false, eqb-false, not-true, not-false}
use Rattle.seven_bit.specs.SevenBits.{Parsed, accepted, refused, number_at}
use Rattle.theory_machine.specs.Machine.{Kind, Lent, Record}
use Rattle.theory_machine.specs.Issue.{Answer, is_taken}
use Rattle.theory_machine.specs.Steps.{step}
use Rattle.theory_machine.specs.Asked.{State, logged, ask, asked, taken_of}
use Rattle.theory_machine.proofs.Rows.{cond_cases}
use Rattle.theory_run.specs.Run.{ScheduleRun, Turn, stops, is_release, by_turn, turn, run_from}
use Rattle.theory_run.specs.Theorem.{first_codes, place_after, StopsForCause}
use Rattle.theory_run.proofs.Numbers.{ReadWithin, number_read}

module _ (K : Kind) (L : Lent K.Num) (room : ℕ) (schedule : List ℕ) where
  -- `count` codes from this place on have been taken
  pub record Gone (s : State K.Num) (steps place : ℕ) (r : ScheduleRun K.Num) : Type 0 where
    pub count : ℕ
    pub steps_are : r.steps ≡ steps + count
    pub same : r.state ≡ asked K L s (first_codes schedule count place)
    pub each : length (first_codes schedule count place) ≡ count
    pub taken : taken_of K L s (first_codes schedule count place) ≡ count
    pub placed : r.place ≡ place_after schedule count place
    pub log_fits : length s.log ≤ room → length r.state.log ≤ room

  abbrev ended_at : State K.Num → (steps place refusal : ℕ) → ScheduleRun K.Num
  ended_at s steps place n = record { state = s; steps = steps; place = place; refusal = n }

  -- what comes of a turn
  abbrev then : (turns : ℕ) → State K.Num → (steps place : ℕ) → Turn K.Num → ScheduleRun K.Num
  then k s steps place t = by_turn t (λ n. ended_at s steps place n) (λ t next. run_from K L room schedule k t (suc steps) next)

  gone-none : (s : State K.Num) (steps place n : ℕ) → Gone s steps place (ended_at s steps place n)
  gone-none s steps place n = record {
    count = 0;
    steps_are = omega arith;
    same = refl;
    each = refl;
    taken = refl;
    placed = refl;
    log_fits = λ h. h;
  }

  -- a release that finds room, or no release
  log-fits : (log : List (Record K.Num)) (e : Option (Record K.Num)) → is_release e && leb room (length log) ≡ false → length log ≤ room
      → length (logged log e) ≤ room
  log-fits log none f h = h
  log-fits log (some r) f h = omega (arith, leb-false room (length log) f, length-append log (r ∷ []))

  module _ (s : State K.Num) (steps place code next : ℕ) (e : number_at schedule place ≡ accepted code next) where
    gone-on : (r : ScheduleRun K.Num) → is_taken (step K L s.machine code) ≡ true
        → is_release (step K L s.machine code).released && leb room (length s.log) ≡ false
        → Gone (ask K L s code) (suc steps) next r → Gone s steps place r
    gone-on r t f g = record {
      count = suc g.count;
      steps_are = omega (arith, g.steps_are);
      same = rw e g.same;
      each = rw e (ap suc g.each);
      taken = rw (e, t) (omega (arith, g.taken));
      placed = rw e g.placed;
      log_fits = λ h. g.log_fits (log-fits s.log (step K L s.machine code).released f h);
    }

  -- one turn, if the later ones are as they should be
  gone-turn : (k : ℕ) (s : State K.Num) (steps place : ℕ)
      → ((t : State K.Num) (next : ℕ) → Gone t (suc steps) next (run_from K L room schedule k t (suc steps) next))
      → (p : Parsed ℕ) → number_at schedule place ≡ p → Gone s steps place (then k s steps place (turn K L room s p))
  gone-turn k s steps place later (refused n at) e = gone-none s steps place n
  gone-turn k s steps place later (accepted code next) e =
      let a : Answer K.Num = step K L s.machine code in
      let Came : Turn K.Num → Type 0 = λ t. Gone s steps place (then k s steps place t) in
      cond_cases Came (not (is_taken a)) (λ _. gone-none s steps place a.refusal)
      (λ t. cond_cases Came (is_release a.released && leb room (length s.log)) (λ _. gone-none s steps place 11)
      (λ f. gone-on s steps place code next e (run_from K L room schedule k (ask K L s code) (suc steps) next) (not-false (is_taken a) t) f
      (later (ask K L s code) next)))

  pub gone : (turns : ℕ) (s : State K.Num) (steps place : ℕ) → Gone s steps place (run_from K L room schedule turns s steps place)
  unfolding run_from
  gone zero s steps place = gone-none s steps place 0
  gone (suc k) s steps place =
      cond_cases (Gone s steps place) (leb (length schedule) place) (λ _. gone-none s steps place 0)
      (λ _. gone-turn k s steps place (λ t next. gone k t (suc steps) next) (number_at schedule place) refl)

  -- WHY IT STOPS

  abbrev Caused : ScheduleRun K.Num → Type 0
  Caused r = StopsForCause K L room schedule r

  caused-by : (s : State K.Num) (steps place n : ℕ) → n ≢ 0 → turn K L room s (number_at schedule place) ≡ stops n → Caused (ended_at s steps place n)
  caused-by s steps place n z e = record { at_the_end = λ q. absurd (z q); of_its_code = λ _. e }

  caused-end : (s : State K.Num) (steps place : ℕ) → place ≡ length schedule → Caused (ended_at s steps place 0)
  caused-end s steps place e = record { at_the_end = λ _. e; of_its_code = λ z. absurd (z refl) }

  caused-turn : (k : ℕ) (s : State K.Num) (steps place : ℕ)
      → ((t : State K.Num) (next : ℕ) → place < next → next ≤ length schedule → Caused (run_from K L room schedule k t (suc steps) next))
      → (p : Parsed ℕ) → number_at schedule place ≡ p → ReadWithin (length schedule) place p → Caused (then k s steps place (turn K L room s p))
  caused-turn k s steps place later (refused n at) e z = caused-by s steps place n z (ap (turn K L room s) e)
  caused-turn k s steps place later (accepted code next) e z =
      let a : Answer K.Num = step K L s.machine code in
      let Came : Turn K.Num → Type 0 = λ t. turn K L room s (number_at schedule place) ≡ t → Caused (then k s steps place t) in
      cond_cases Came (not (is_taken a)) (λ t. caused-by s steps place a.refusal (eqb-false a.refusal 0 (not-true (is_taken a) t)))
      (λ _. cond_cases Came (is_release a.released && leb room (length s.log))
      (λ _. caused-by s steps place 11 (λ q. absurd (omega (arith, q))))
      (λ _ _. later (ask K L s code) next z.0 z.1)) (ap (turn K L room s) e)

  -- as many turns as bytes are enough, since each number has one or more
  pub caused : (turns : ℕ) (s : State K.Num) (steps place : ℕ) → place ≤ length schedule → length schedule ≤ place + turns
      → Caused (run_from K L room schedule turns s steps place)
  unfolding run_from
  caused zero s steps place h enough = caused-end s steps place (omega arith)
  caused (suc k) s steps place h enough =
      cond_cases Caused (leb (length schedule) place) (λ t. caused-end s steps place (omega (arith, leb-true (length schedule) place t)))
      (λ t. caused-turn k s steps place (λ w next a b. caused k w (suc steps) next b (omega (arith, a))) (number_at schedule place) refl
      (number_read schedule place (leb-false (length schedule) place t)))
