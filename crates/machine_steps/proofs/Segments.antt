-- Codes taken up to the next release (specs/Taking.antt) are a segment of the theory's run: without a release its end, with one its state there.
use mathlib.Core.Path.{◌≡◌, refl, ap, ◌∙◌, subst}
use mathlib.Core.Bool.{Bool, true, false}
use mathlib.Core.Option.{Option, none, some}
use mathlib.Core.List.{List, [], ◌∷◌, ◌++◌}
use Prim.Native.Nat.{ℕ, zero, suc, ◌+◌, ◌≤◌, ◌<◌}
use native.Mathlib.Omega.{arith}
use lib.Dec.{ltb, leb, eqb}
use lib.Ieee.{Float}
use lib.ListN.{length}
use borrow.Author.Tests.{ltb-true, ltb-false, le-leb, lt-leb, eqb-true}
use Rattle.words.specs.Instructions.{list_limit}
use Rattle.seven_bit.specs.SevenBits.{Parsed, accepted, refused, number_at}
use Rattle.theory_machine.specs.Machine.{Lent, Machine, Shape, Record}
use Rattle.theory_machine.specs.Binary64.{binary64}
use Rattle.theory_machine.specs.Issue.{Answer}
use Rattle.theory_machine.specs.Steps.{perform, in_order}
use Rattle.theory_machine.specs.Asked.{State, written}
use Rattle.theory_machine.proofs.Rows.{both_cases}
use Rattle.theory_machine.proofs.Theorems.{good_order_kept, step_is_perform}
use Rattle.theory_run.specs.Run.{ScheduleRun, by_turn, turn, turn_of, run_from}
use Rattle.machine_take.specs.Taking.{Taken, ended_at, by_number, after_step, take_from}
use Rattle.machine_take.proofs.Forwards.{moves_on}

abbrev pub state_at : Machine Float → (cells : List Float) → (log : List (Record Float)) → State Float
state_at m cells log = record { machine = m; cells = cells; log = log }

module _ (L : Lent Float) (room : ℕ) (schedule : List ℕ) where
  -- the theory's run from a state
  abbrev pub on_from : (turns : ℕ) → State Float → (steps place : ℕ) → ScheduleRun Float
  on_from turns s steps place = run_from binary64 L room schedule turns s steps place

  -- w is the run from the release r on, of fewer than `before` turns; and what a run keeps, is kept
  pub record Onto (before : ℕ) (cells : List Float) (log : List (Record Float)) (t : Taken) (r : Record Float) (w : ScheduleRun Float) : Type 0 where
    pub turns : ℕ
    pub fewer : turns < before
    pub enough : length schedule ≤ t.place + turns
    pub same : w ≡ on_from turns (state_at t.machine (written cells (some r)) (log ++ r ∷ [])) t.steps t.place
    pub few : t.steps ≤ t.place
    pub rows : Shape t.machine
    pub ordered : in_order binary64 L t.machine ≡ true
    pub fits : length log < room

  module _ (before : ℕ) (cells : List Float) (log : List (Record Float)) where
    -- where codes stop, and the run from where they began
    abbrev pub SegmentBy : Option (Record Float) → Taken → ScheduleRun Float → Type 0
    SegmentBy none t w = w ≡ record { state = state_at t.machine cells log; steps = t.steps; place = t.place; refusal = t.refusal }
    SegmentBy (some r) t w = Onto before cells log t r w

    abbrev pub Segment : Taken → ScheduleRun Float → Type 0
    Segment t w = SegmentBy t.released t w

    module _ (m : Machine Float) (steps place : ℕ) where
      abbrev ends : ℕ → ScheduleRun Float
      ends number = record { state = state_at m cells log; steps = steps; place = place; refusal = number }

      module _ (j : ℕ) (below : j < before) (next : ℕ) (enough : length schedule ≤ next + j) (few : suc steps ≤ next) (onward : Machine Float → Taken)
          (later : (n : Machine Float) → Shape n → in_order binary64 L n ≡ true → Segment (onward n) (on_from j (state_at n cells log) (suc steps) next)) where
        abbrev Both : Answer Float → Type 0
        Both a = Segment (after_step L (ltb (length log) room) schedule m steps place next a onward)
            (by_turn (turn_of binary64 L room (state_at m cells log) next a) ends (λ t at. on_from j t (suc steps) at))

        module _ (n : Machine Float) (S : Shape n) (o : in_order binary64 L n ≡ true) where
          at-release : (r : Record Float) (b : Bool) → ltb (length log) room ≡ b → Both (record { refusal = 0; machine = n; released = some r })
          at-release r true e = rw (e, lt-leb room (length log) (ltb-true (length log) room e)) (record {
            turns = j;
            fewer = below;
            enough = enough;
            same = refl;
            few = few;
            rows = S;
            ordered = o;
            fits = ltb-true (length log) room e;
          })
          at-release r false e = rw (e, le-leb room (length log) (ltb-false (length log) room e)) refl

          by-release : (r : Option (Record Float)) → Both (record { refusal = 0; machine = n; released = r })
          by-release none = later n S o
          by-release (some r) = at-release r (ltb (length log) room) refl

        by_answer : (number : ℕ) (n : Machine Float) (r : Option (Record Float)) → (number ≡ 0 → Shape n × (in_order binary64 L n ≡ true))
            → (b : Bool) → eqb number 0 ≡ b → Both (record { refusal = number; machine = n; released = r })
        by_answer number n r kept true e =
            let z = eqb-true number 0 e in rw z (by-release n (kept z).0 (kept z).1 r)
        by_answer number n r kept false e = rw e refl

      module _ (short : length L.words ≤ list_limit) (S : Shape m) (o : in_order binary64 L m ≡ true) where
        kept : (code : ℕ) → (perform binary64 L m code).refusal ≡ 0
            → Shape (perform binary64 L m code).machine × (in_order binary64 L (perform binary64 L m code).machine ≡ true)
        kept code z =
            let e = step_is_perform binary64 L short m o code in
            subst (λ (a : Answer Float). Shape a.machine × (in_order binary64 L a.machine ≡ true)) e
            (good_order_kept binary64 L m S code (ap (λ (a : Answer Float). a.refusal) e ∙ z))

        module _ (j : ℕ) (below : j < before) (enough : length schedule ≤ place + suc j) (few : steps ≤ place) (onward : ℕ → Machine Float → Taken)
            (later : (next : ℕ) → place < next → (n : Machine Float) → Shape n → in_order binary64 L n ≡ true
            → Segment (onward next n) (on_from j (state_at n cells log) (suc steps) next)) where
          by_number_lem : (p : Parsed ℕ) → number_at schedule place ≡ p
              → Segment (by_number p (λ number. ended_at m steps place number) (λ code next. after_step L (ltb (length log) room) schedule m steps place next (perform binary64 L m code) (onward next)))
              (by_turn (turn binary64 L room (state_at m cells log) p) ends (λ t at. on_from j t (suc steps) at))
          by_number_lem (refused number at) e = refl
          by_number_lem (accepted code next) e =
              let a : Answer Float = perform binary64 L m code in
              let on : place < next = moves_on schedule place e in
              let enough' : length schedule ≤ next + j = omega arith in
              let few' : suc steps ≤ next = omega arith in
              rw (step_is_perform binary64 L short m o code)
              (by_answer j below next enough' few' (onward next) (later next on) a.refusal a.machine a.released (kept code) (eqb a.refusal 0) refl)

    pub segment : length L.words ≤ list_limit → (k j : ℕ) → j ≤ before → (m : Machine Float) (steps place : ℕ) → length schedule ≤ place + k → length schedule ≤ place + j → steps ≤ place
        → Shape m → in_order binary64 L m ≡ true
        → Segment (take_from L (ltb (length log) room) schedule k m steps place) (on_from j (state_at m cells log) steps place)
    unfolding take_from run_from
    segment short zero zero b m steps place e f few S o = refl
    segment short zero (suc j) b m steps place e f few S o = rw (le-leb (length schedule) place (omega arith)) refl
    segment short (suc k) zero b m steps place e f few S o = rw (le-leb (length schedule) place (omega arith)) refl
    segment short (suc k) (suc j) b m steps place e f few S o =
        both_cases Segment (leb (length schedule) place) (λ _. refl)
        (λ _. by_number_lem m steps place short S o j (omega arith) f few (λ next n. take_from L (ltb (length log) room) schedule k n (suc steps) next)
        (λ next g n S' o'. segment short k j (omega arith) n (suc steps) next (omega arith) (omega arith) (omega arith) S' o') (number_at schedule place) refl)
