-- THE STATEMENTS ON RUNS (their proofs: proofs/Theorems.antt), over every kind of number, every list, every log and every schedule.
use Rattle.std.specs.Prelude.{◌≡◌, true, false, ◌≢◌, List, [], ◌∷◌, ℕ, zero, suc, ◌≤◌, length}
use Rattle.seven_bit.specs.SevenBits.{Parsed, accepted, refused, number_at}
use Rattle.theory_machine.specs.Tags.{register_count}
use Rattle.theory_machine.specs.Machine.{Kind, Lent, Machine}
use Rattle.theory_machine.specs.Steps.{in_order}
use Rattle.theory_machine.specs.OneAtATime.{Run}
use Rattle.theory_machine.specs.Entries.{list_refusal, fresh}
use Rattle.theory_machine.specs.Asked.{State, asked, taken_of}
use Rattle.theory_machine.specs.Statement.{Outcome}
use Rattle.theory_run.specs.Run.{ScheduleRun, stops, turn, run}

-- "A schedule is a row of numbers, each a step code": its numbers, without any machine
module _ (schedule : List ℕ) where
  abbrev codes_then : Parsed ℕ → (later : (place : ℕ) → List ℕ) → List ℕ
  codes_then (accepted code next) later = code ∷ later next
  codes_then (refused number place) later = []

  -- the first n of them from a place on, fewer where the schedule has no more or one is at fault
  abbrev pub first_codes : (n place : ℕ) → List ℕ
  first_codes zero place = []
  first_codes (suc n) place = codes_then (number_at schedule place) (first_codes n)

  abbrev place_then : Parsed ℕ → (later : (place : ℕ) → ℕ) → ℕ
  place_then (accepted code next) later = later next
  place_then (refused number place) later = place

  -- the byte place after them
  abbrev pub place_after : (n place : ℕ) → ℕ
  place_after zero place = place
  place_after (suc n) place = place_then (number_at schedule place) (place_after n)

module _ (K : Kind) (L : Lent K.Num) (room : ℕ) (schedule : List ℕ) where
  -- what the run r, begun in state s, has done: machine, cells and records are those of the codes it took, asked one by one; these are the
  -- first of the schedule, each of them was taken, and the byte place is that after them
  pub record IsAsked (s : State K.Num) (r : ScheduleRun K.Num) : Type 0 where
    pub same : r.state ≡ asked K L s (first_codes schedule r.steps 0)
    pub each : length (first_codes schedule r.steps 0) ≡ r.steps
    pub taken : taken_of K L s (first_codes schedule r.steps 0) ≡ r.steps
    pub placed : r.place ≡ place_after schedule r.steps 0
    -- the log is never longer than its room
    pub log_fits : length r.state.log ≤ room

  -- OF EVERY RUN, refused or not, of any machine and any cells
  abbrev pub RunIsAsked : Type 0
  RunIsAsked =
      (m : Machine K.Num) (cells : List K.Num)
      → IsAsked (record { machine = m; cells = cells; log = [] }) (run K L room schedule m cells)

  -- A RUN ENDS ONLY AT THE END, WITH 0, OR WITH THE REFUSAL OF THE CODE AT ITS PLACE: "takes codes until the end or the first refusal"
  pub record StopsForCause (r : ScheduleRun K.Num) : Type 0 where
    pub at_the_end : r.refusal ≡ 0 → r.place ≡ length schedule
    pub of_its_code : r.refusal ≢ 0 → turn K L room r.state (number_at schedule r.place) ≡ stops r.refusal

  abbrev pub RunStopsForCause : Type 0
  RunStopsForCause =
      list_refusal K L ≡ 0 → (m : Machine K.Num) → in_order K L m ≡ true → (cells : List K.Num)
      → StopsForCause (run K L room schedule m cells)

  -- A RUN OF A REFUSED LIST OR MACHINE: "the answer shows 0 steps, byte place 0 and 0 records", and machine and cells are as given
  abbrev not_begun_with : Machine K.Num → (cells : List K.Num) → (refusal : ℕ) → ScheduleRun K.Num
  not_begun_with m cells n = record { state = record { machine = m; cells = cells; log = [] }; steps = 0; place = 0; refusal = n }

  pub record RefusedRuns (m : Machine K.Num) (cells : List K.Num) : Type 0 where
    pub of_list : list_refusal K L ≢ 0 → run K L room schedule m cells ≡ not_begun_with m cells (list_refusal K L)
    pub of_machine : list_refusal K L ≡ 0 → in_order K L m ≡ false → run K L room schedule m cells ≡ not_begun_with m cells 6

-- DEMAND 3, OF RUNS: over every list that passes against its areas, every four start numbers, every start cells as long as their area, every
-- room in the log and every schedule, what the order theorem says of codes holds of the run from a fresh machine, a run that is refused on
-- the way (11 too) among them: each of its records is of a store of the list, with its cell and R1's number in the one-at-a-time run
abbrev pub DemandThreeOfRuns : Type 1
DemandThreeOfRuns =
    (K : Kind) (L : Lent K.Num) (room : ℕ) (schedule : List ℕ) (start : Run K.Num) → list_refusal K L ≡ 0
    → length start.registers ≡ register_count → length start.cells ≡ L.results
    → let r : ScheduleRun K.Num = run K L room schedule (fresh K L start.registers).machine start.cells in Outcome K L start r.state r.steps
