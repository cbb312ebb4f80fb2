-- A row of codes being taken: what is done so far and what is left make the whole.
use mathlib.Core.Path.{◌≡◌, refl}
use mathlib.Core.Bool.{Bool, true, false, cond, not}
use mathlib.Core.Option.{Option, none, some}
use mathlib.Core.List.{List}
use Prim.Native.Nat.{ℕ, zero, suc, ◌+◌, ◌≤◌, ◌<◌}
use native.Mathlib.Numerals.{add-one}
use native.Mathlib.Omega.{arith}
use lib.Dec.{eqb}
use lib.Ieee.{Float}
use lib.ListN.{length}
use borrow.Author.Tests.{le-leb, lt-leb, ne_eqb}
use Rattle.std.specs.Prelude as std
use Rattle.std.specs.Prelude.{Ok, Err, Some, None, is_some}
use Rattle.words.specs.declared.refusal.Refusal.{Refusal}
use Rattle.words.specs.Refusals.{number}
use Rattle.words.proofs.Refusals.{number_real}
use Rattle.seven_bit.specs.SevenBits.{accepted, refused, number_at}
use Rattle.theory_machine.specs.Machine.{Lent, Machine, Record}
use Rattle.theory_machine.specs.Binary64.{binary64}
use Rattle.theory_machine.specs.Issue.{Answer, is_taken}
use Rattle.theory_machine.specs.Steps.{perform}
use Rattle.machine_parts.specs.declared.Record as parts
use Rattle.machine_parts.specs.View.{view_released}
use Rattle.machine_take.proofs.Forwards.{moves_on}
use Rattle.machine_take.specs.Changes.{answered, in_room}
use Rattle.machine_take.specs.Taking.{Taken, ended_at, by_number, by_release, after_step, take_from}

module _ (L : Lent Float) (room : Bool) (schedule : List ℕ) where
  -- where a release stops
  abbrev at_release : Machine Float → (steps next : ℕ) → Record Float → Taken
  at_release m steps next r = record { machine = m; steps = suc steps; place = next; refusal = 0; released = some r }

  -- an answer that has room stops or goes on
  module _ (m : Machine Float) (steps place next : ℕ) (on : Machine Float → Taken) where
    abbrev After : Answer Float → Taken
    After b = cond (not (is_taken b)) (ended_at m steps place b.refusal) (by_release b.released (on b.machine) (at_release b.machine steps next))

    room_asked : (n : ℕ) (t : Bool) → eqb n 0 ≡ t → (k : Machine Float) (o : Option (Record Float)) (f : Bool)
        → cond (not (eqb n 0)) (ended_at m steps place n) (by_release o (on k) (λ r. cond f (at_release k steps next r) (ended_at m steps place 11)))
        ≡ After (in_room f m (record { refusal = n; machine = k; released = o }))
    room_asked n false e k o f = rw (e, e)
    room_asked n true e k none f = rw (e, e)
    room_asked n true e k (some r) true = rw (e, e)
    room_asked n true e k (some r) false = rw e

    pub after_room : (a : Answer Float) → after_step L room schedule m steps place next a on ≡ After (in_room room m a)
    after_room a = room_asked a.refusal (is_taken a) refl a.machine a.released room

  module _ (all : Taken) where
    -- the codes from here on make the whole, and there are turns enough for them
    pub record Here (m : Machine Float) (steps place : ℕ) : Type 0 where
      pub turns : ℕ
      pub enough : length schedule ≤ place + turns
      pub same : take_from L room schedule turns m steps place ≡ all
      pub few : steps ≤ place

    module _ {m : Machine Float} {steps place : ℕ} (h : Here m steps place) where
      pub at_end : length schedule ≤ place → ended_at m steps place 0 ≡ all
      unfolding take_from
      at_end e = go h.turns h.same
        where
          go : (k : ℕ) → take_from L room schedule k m steps place ≡ all → ended_at m steps place 0 ≡ all
          go zero q = q
          go (suc k) q = rw (le-leb (length schedule) place e) at q

      module _ (inside : place < length schedule) where
        -- one turn more
        turn_on : (k : ℕ) → length schedule ≤ place + k → take_from L room schedule k m steps place ≡ all
            → (n : ℕ) × ((length schedule ≤ place + suc n)
            × (by_number (number_at schedule place) (λ number. ended_at m steps place number)
            (λ code next. after_step L room schedule m steps place next (perform binary64 L m code) (λ m. take_from L room schedule n m (suc steps) next)) ≡ all))
        unfolding take_from
        turn_on zero f q = absurd (omega arith)
        turn_on (suc n) f q = (n, (f, rw (lt-leb (length schedule) place inside) at q))

        pub number_stops : {number at : ℕ} → number_at schedule place ≡ refused number at → ended_at m steps place number ≡ all
        number_stops e = rw e at (turn_on h.turns h.enough h.same).1.1

        module _ {code next : ℕ} (read : number_at schedule place ≡ accepted code next) where
          after_code : (n : ℕ) × ((length schedule ≤ place + suc n)
              × (After m steps place next (λ m. take_from L room schedule n m (suc steps) next) (in_room room m (perform binary64 L m code)) ≡ all))
          after_code =
              let t = turn_on h.turns h.enough h.same in
              (t.0, (t.1.0, rw (read, after_room m steps place next (λ m. take_from L room schedule t.0 m (suc steps) next) (perform binary64 L m code)) at t.1.1))

          pub step_stops : (r : Refusal) → answered (Err r) m ≡ in_room room m (perform binary64 L m code) → ended_at m steps place (number r) ≡ all
          step_stops r q = rw (← q, ne_eqb (number r) 0 (number_real r)) at after_code.1.1

          module _ {n : Machine Float} (released : std.Option parts.Record) (q : answered (Ok released) n ≡ in_room room m (perform binary64 L m code)) where
            pub step_goes : is_some released ≡ false → Here n (steps + 1) next
            step_goes e = go released q e
              where
                go : (o : std.Option parts.Record) → answered (Ok o) n ≡ in_room room m (perform binary64 L m code) → is_some o ≡ false → Here n (steps + 1) next
                go None q e =
                    let t = after_code in
                    record {
                      turns = t.0;
                      enough = omega (arith, t.1.0, moves_on schedule place read);
                      same = rw add-one (rw (← q) at t.1.1);
                      few = omega (arith, h.few, moves_on schedule place read);
                    }
                go (Some r) q e = cc

            pub release_stops : is_some released ≡ true
                → record { machine = n; steps = steps + 1; place = next; refusal = 0; released = view_released released } ≡ all
            release_stops e = go released q e
              where
                go : (o : std.Option parts.Record) → answered (Ok o) n ≡ in_room room m (perform binary64 L m code) → is_some o ≡ true
                    → record { machine = n; steps = steps + 1; place = next; refusal = 0; released = view_released o } ≡ all
                go None q e = cc
                go (Some r) q e = rw add-one (rw (← q) at after_code.1.1)

-- from the start
pub begins : (L : Lent Float) (room : Bool) (schedule : List ℕ) (m : Machine Float) (steps from : ℕ) → steps ≤ from
    → Here L room schedule (take_from L room schedule (length schedule) m steps from) m steps from
begins L room schedule m steps from few = record { turns = length schedule; enough = omega arith; same = refl; few = few }
