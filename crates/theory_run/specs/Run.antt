-- Document 01, "The list file and the schedule": the run of a schedule.
use Rattle.std.specs.Prelude.{Bool, true, false, cond, not, ◌&&◌, List, [], ◌++◌, ℕ, zero, suc, leb, eqb, length, drop}
use Rattle.std.proofs.Math.Option.{Option, none, some}
use Rattle.seven_bit.specs.SevenBits.{Parsed, accepted, refused, number_at}
use Rattle.theory_machine.specs.Machine.{Kind, Lent, Machine, Record}
use Rattle.theory_machine.specs.Issue.{Answer, is_taken}
use Rattle.theory_machine.specs.Steps.{step}
use Rattle.theory_machine.specs.Entries.{refusal_of_entry}
use Rattle.theory_machine.specs.Asked.{State, after}

-- "Answer: steps done, byte place of the refused code (or the length), refusal, records written"; with the machine, the cells and the records
pub record ScheduleRun (A : Type 0) : Type 0 where
  pub state : State A
  pub steps : ℕ
  pub place : ℕ
  pub refusal : ℕ

-- what one code of a schedule comes to: the run stops with a refusal, or goes on at the place after it
pub data Turn (A : Type 0) : Type 0 where
  stops : (refusal : ℕ) → Turn A
  goes : State A → (next : ℕ) → Turn A

abbrev pub is_release : {A : Type 0} → Option (Record A) → Bool
is_release none = false
is_release (some r) = true

abbrev pub by_turn : {A B : Type 0} → Turn A → (ended_at : ℕ → B) → (onward : State A → ℕ → B) → B
by_turn (stops number) ended_at onward = ended_at number
by_turn (goes s next) ended_at onward = onward s next

module _ (K : Kind) (L : Lent K.Num) (room : ℕ) where
  -- "A permitted release that finds the log full is refused with 11."
  abbrev pub turn_of : State K.Num → (next : ℕ) → Answer K.Num → Turn K.Num
  turn_of s next a =
      cond (not (is_taken a)) (stops a.refusal)
      (cond (is_release a.released && leb room (length s.log)) (stops 11)
      (goes (after s a) next))

  -- "8, 9, then those of a step"
  abbrev pub turn : State K.Num → Parsed ℕ → Turn K.Num
  turn s (refused number place) = stops number
  turn s (accepted code next) = turn_of s next (step K L s.machine code)

  module _ (schedule : List ℕ) where
    -- "takes codes until the end or the first refusal"; "Steps before a refusal stand". Each code has a byte or more, so that as many turns
    -- as there are bytes are enough
    unfoldable pub run_from : (turns : ℕ) → State K.Num → (steps place : ℕ) → ScheduleRun K.Num
    run_from zero s steps place = record { state = s; steps = steps; place = place; refusal = 0 }
    run_from (suc k) s steps place =
        cond (leb (length schedule) place) (record { state = s; steps = steps; place = place; refusal = 0 })
        (by_turn (turn s (number_at schedule place)) (λ number. record { state = s; steps = steps; place = place; refusal = number })
        (λ t next. run_from k t (suc steps) next))

    -- a machine and its result cells, with nothing logged
    abbrev pub unlogged : Machine K.Num → (cells : List K.Num) → State K.Num
    unlogged m cells = record { machine = m; cells = cells; log = [] }

    -- "If the list or machine is refused, the answer shows 0 steps, byte place 0 and 0 records."
    abbrev pub not_begun : Machine K.Num → (cells : List K.Num) → (refusal : ℕ) → ScheduleRun K.Num
    not_begun m cells number = record { state = unlogged m cells; steps = 0; place = 0; refusal = number }

    -- "A run checks the list, then 6, even for an empty schedule"
    unfoldable pub run : Machine K.Num → (cells : List K.Num) → ScheduleRun K.Num
    run m cells =
        cond (eqb (refusal_of_entry K L m) 0) (run_from (length schedule) (unlogged m cells) 0 0)
        (not_begun m cells (refusal_of_entry K L m))

-- "later records are untouched": a lent log with these records at its front
abbrev pub logged_over : {A : Type 0} → (records log : List A) → List A
logged_over records log = records ++ drop (length records) log
