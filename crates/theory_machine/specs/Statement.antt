-- THE STATEMENTS OF THE THEOREMS (their proofs: proofs/Theorems.antt). First what holds of any machine; then the order theorem, demand 3.
use Rattle.std.specs.Prelude.{◌≡◌, Bool, true, false, cond, ◌≢◌, List, map, ℕ, ◌+◌, ◌≤◌, ◌<◌, eqb, length, replicate}
use Rattle.std.proofs.Math.Option.{none, some}
use Rattle.words.specs.Instructions.{list_limit}
use Rattle.theory_machine.specs.Rows.{sum, Every}
use Rattle.theory_machine.specs.Tags.{register_count}
use Rattle.theory_machine.specs.Instruction.{Instruction, no_instruction, load, store, copy, cell_arithmetic, register_arithmetic, r1_of}
use Rattle.theory_machine.specs.Machine.{Kind, Lent, num, Machine, Shape, Record}
use Rattle.theory_machine.specs.GoodOrder.{drained}
use Rattle.theory_machine.specs.Issue.{refused, instruction_at}
use Rattle.theory_machine.specs.Steps.{perform, in_order, step}
use Rattle.theory_machine.specs.Count.{words_left}
use Rattle.theory_machine.specs.OneAtATime.{Run, value, run_to}
use Rattle.theory_machine.specs.Entries.{empty_machine, list_refusal, fresh, one_at_a_time, steps_left, lowest_step}
use Rattle.theory_machine.specs.Asked.{State, written_all, ask, asked, taken_of, begin, lowest_again}

-- OF ANY MACHINE, whether or not a run reaches it
module _ (K : Kind) (L : Lent K.Num) where
  abbrev pub Permitted : Machine K.Num → (code : ℕ) → Type 0
  Permitted m code = (step K L m code).refusal ≡ 0

  abbrev pub is_drained : Machine K.Num → Bool
  is_drained m = drained (length L.words) m

  -- an accepted step keeps good order
  abbrev pub GoodOrderKept : Type 0
  GoodOrderKept =
      (m : Machine K.Num) → Shape m → (code : ℕ) → Permitted m code
      → Shape (step K L m code).machine × (in_order K L (step K L m code).machine ≡ true)

  -- a refused step leaves the machine as given and releases nothing
  abbrev pub RefusedChangesNothing : Type 0
  RefusedChangesNothing =
      (m : Machine K.Num) (code : ℕ) → (step K L m code).refusal ≢ 0 → ((step K L m code).machine ≡ m) × ((step K L m code).released ≡ none)

  -- a step of a machine in good order is performed: with the theorem above, a run tests once and then performs
  abbrev pub StepIsPerform : Type 0
  StepIsPerform =
      length L.words ≤ list_limit → (m : Machine K.Num) → in_order K L m ≡ true → (code : ℕ) → step K L m code ≡ perform K L m code

  -- until drained some step is permitted
  abbrev pub Progress : Type 0
  Progress =
      list_refusal K L ≡ 0 → (m : Machine K.Num) → Shape m → in_order K L m ≡ true → is_drained m ≡ false → (code : ℕ) × Permitted m code

  -- the lowest step is the smallest permitted code, and none exactly when drained
  pub record IsLowest (m : Machine K.Num) : Type 0 where
    pub accepted : (lowest_step K L m).refusal ≡ 0
    pub permitted : (code : ℕ) → (lowest_step K L m).code ≡ some code → Permitted m code
    pub smallest : (code : ℕ) → (lowest_step K L m).code ≡ some code → (j : ℕ) → Permitted m j → code ≤ j
    pub none_if_drained : is_drained m ≡ true → (lowest_step K L m).code ≡ none
    pub drained_if_none : (lowest_step K L m).code ≡ none → is_drained m ≡ true

  abbrev pub LowestStepIsLowest : Type 0
  LowestStepIsLowest = list_refusal K L ≡ 0 → (m : Machine K.Num) → Shape m → in_order K L m ≡ true → IsLowest m

  -- every accepted step lowers the steps left by exactly one
  abbrev pub StepLowers : Type 0
  StepLowers =
      list_refusal K L ≡ 0 → (m : Machine K.Num) → Shape m → (code : ℕ) → Permitted m code
      → (steps_left K L (step K L m code).machine).left + 1 ≡ (steps_left K L m).left

  -- a fresh machine's steps left are a sum over the list
  abbrev pub FreshCount : Type 0
  FreshCount =
      list_refusal K L ≡ 0 → (starts : List K.Num) → length starts ≡ register_count
      → (steps_left K L (fresh K L starts).machine).left ≡ words_left L.words

-- WHAT A REFUSED ENTRY GIVES, of a list refused against its areas, and of a machine not in good order
pub record RefusedList (K : Kind) (L : Lent K.Num) : Type 0 where
  pub of_fresh : (starts : List K.Num)
      → fresh K L starts ≡ record { refusal = list_refusal K L; machine = empty_machine (replicate register_count K.nought) }
  pub of_run : (start : Run K.Num) → one_at_a_time K L start ≡ record { refusal = list_refusal K L; run = start }
  pub of_steps_left : (m : Machine K.Num) → steps_left K L m ≡ record { refusal = list_refusal K L; left = 0 }
  pub of_lowest_step : (m : Machine K.Num) → lowest_step K L m ≡ record { refusal = list_refusal K L; code = none }

pub record RefusedMachine (K : Kind) (L : Lent K.Num) (m : Machine K.Num) : Type 0 where
  pub of_steps_left : steps_left K L m ≡ record { refusal = 6; left = 0 }
  pub of_lowest_step : lowest_step K L m ≡ record { refusal = 6; code = none }
  pub of_step : (code : ℕ) → step K L m code ≡ refused m 6

abbrev pub RefusedEntries : (K : Kind) → Lent K.Num → Type 0
RefusedEntries K L =
    (list_refusal K L ≢ 0 → RefusedList K L)
    × (list_refusal K L ≡ 0 → (m : Machine K.Num) → in_order K L m ≡ false → RefusedMachine K L m)

-- how many records a log has of place q
abbrev pub records_of : {A : Type 0} → (q : ℕ) → List (Record A) → ℕ
records_of q log = sum (λ r. cond (eqb r.place q) 1 0) log

-- how many it is to have: one of a store, none of any other instruction
abbrev pub records_due : Instruction → ℕ
records_due no_instruction = 0
records_due (load r c) = 0
records_due (store r c) = 1
records_due (copy r x) = 0
records_due (cell_arithmetic o r c) = 0
records_due (register_arithmetic o r x) = 0

module _ (K : Kind) (L : Lent K.Num) (start : Run K.Num) where
  -- a record is that of a store of the list: its place, its cell, and R1's number there in the one-at-a-time run
  pub record OfStore (r : Record K.Num) : Type 0 where
    pub in_list : r.place < length L.words
    pub its_cell : instruction_at K L r.place ≡ store (r1_of (instruction_at K L r.place)) r.cell
    pub its_number : r.number ≡ value K (run_to K L start r.place) (r1_of (instruction_at K L r.place))

  -- DEMAND 3, of the state s that k taken codes have led to
  pub record Outcome (s : State K.Num) (k : ℕ) : Type 0 where
    pub whole : Shape s.machine
    pub in_good_order : in_order K L s.machine ≡ true
    -- the log is right, and it is all that was written; no store is released twice
    pub records_right : Every OfStore s.log
    pub cells_are_log : s.cells ≡ written_all start.cells s.log
    pub at_most_once : (q : ℕ) → records_of q s.log ≤ records_due (instruction_at K L q)
    -- until drained some code is taken; a refused code changes nothing
    pub goes_on : is_drained K L s.machine ≡ false → (code : ℕ) × Permitted K L s.machine code
    pub refused_leave : (code : ℕ) → (step K L s.machine code).refusal ≢ 0 → ask K L s code ≡ s
    -- each taken code lowers the count by exactly one, from a start that is a sum over the list, to 0 when drained
    pub lowers : (code : ℕ) → Permitted K L s.machine code
        → (steps_left K L (ask K L s code).machine).left + 1 ≡ (steps_left K L s.machine).left
    pub counted : k + (steps_left K L s.machine).left ≡ words_left L.words
    pub none_left : is_drained K L s.machine ≡ true → (steps_left K L s.machine).left ≡ 0
    -- drained: registers and cells are those of the one-at-a-time run, and each store of the list has one record
    pub registers_right : is_drained K L s.machine ≡ true → s.machine.registers ≡ map num (one_at_a_time K L start).run.registers
    pub cells_right : is_drained K L s.machine ≡ true → s.cells ≡ (one_at_a_time K L start).run.cells
    pub each_once : is_drained K L s.machine ≡ true → (q : ℕ) → records_of q s.log ≡ records_due (instruction_at K L q)

-- THE ORDER THEOREM: over every kind of number, every list that passes against its areas, every four start numbers, every start cells as
-- long as their area, and every row of codes
abbrev pub OrderTheorem : Type 1
OrderTheorem =
    (K : Kind) (L : Lent K.Num) (start : Run K.Num) → list_refusal K L ≡ 0 → length start.registers ≡ register_count
    → length start.cells ≡ L.results → (codes : List ℕ)
    → Outcome K L start (asked K L (begin K L start) codes) (taken_of K L (begin K L start) codes)

-- the lowest step, taken again and again, drains in exactly the count of the list
pub record LowestDrains (K : Kind) (L : Lent K.Num) (start : Run K.Num) : Type 0 where
  pub not_sooner : (n : ℕ) → n < words_left L.words → is_drained K L (lowest_again K L (begin K L start) n).machine ≡ false
  pub then : is_drained K L (lowest_again K L (begin K L start) (words_left L.words)).machine ≡ true

abbrev pub LowestDrainsTheorem : Type 1
LowestDrainsTheorem =
    (K : Kind) (L : Lent K.Num) (start : Run K.Num) → list_refusal K L ≡ 0 → length start.registers ≡ register_count
    → length start.cells ≡ L.results → LowestDrains K L start
