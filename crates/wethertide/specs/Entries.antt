-- What each exported entry answers and leaves, in words: the answers of crates list_file and theory_machine, of the machine that the image holds.
use Rattle.std.specs.Prelude.{◌≡◌, Bool, true, false, cond, not, List, [], ◌∷◌, ◌++◌, ℕ, ◌+◌, ◌/◌, eqb, leb, Float, length}
use Rattle.std.proofs.Math.Option.{Option, none, some}
use Rattle.std.proofs.lemmas.List.Edits.{sets}
use Rattle.numbers.specs.Number.{pattern_of}
use Rattle.theory_machine.specs.Binary64.{binary64}
use Rattle.theory_machine.specs.Machine.{Machine, Record}
use Rattle.theory_machine.specs.Issue.{Answer, is_taken}
use Rattle.theory_machine.specs.Steps.{step}
use Rattle.theory_machine.specs.Asked.{written}
use Rattle.theory_machine.specs.Entries as theory
use Rattle.theory_run.specs.Run.{ScheduleRun, run}
use Rattle.machine_parts.specs.View.{view, lent}
use Rattle.machine_steps.specs.Advance.{Progress}
use Rattle.machine_words.specs.Rows.{number_at}
use Rattle.machine_words.specs.Image.{machine_in, image_over}

-- 11: "the lent buffer .. is too small"; whether a row has room for so many
abbrev pub fits : {A : Type 0} → (count : ℕ) → List A → Bool
fits count row = leb count (length row)

-- what is promised of rows with room for what they are to hold; without it a call is refused with 11 before anything else, and every row is as found
pub record ByRoom (room : Bool) (Roomy Short : Type 0) : Type 0 where
  pub roomy : room ≡ true → Roomy
  pub short : room ≡ false → Short

-- the words of a record, and of a row of answers: count or length, and place; what was released; the steps left; the lowest step; steps done, byte place and records
abbrev pub placed_length : ℕ
placed_length = 2

abbrev pub record_length : ℕ
record_length = 3

abbrev pub released_length : ℕ
released_length = 1 + record_length

abbrev pub left_length : ℕ
left_length = 1

abbrev pub lowest_length : ℕ
lowest_length = 2

abbrev pub ran_length : ℕ
ran_length = 3

abbrev pub record_words : Record Float → List ℕ
record_words r = r.place ∷ r.cell ∷ pattern_of r.number ∷ []

-- whether a record was released, and the record
abbrev pub released_words : Option (Record Float) → List ℕ
released_words none = 0 ∷ 0 ∷ 0 ∷ 0 ∷ []
released_words (some r) = 1 ∷ record_words r

-- the log: three words a record
abbrev pub log_words : List (Record Float) → List ℕ
log_words [] = []
log_words (r ∷ rs) = record_words r ++ log_words rs

-- a log that is lent has room for a record in each three words
abbrev pub room_in : (log : List ℕ) → ℕ
room_in log = length log / record_length

-- whether there is a lowest step, and its code
abbrev pub lowest_words : Option ℕ → List ℕ
lowest_words none = 0 ∷ 0 ∷ []
lowest_words (some code) = 1 ∷ code ∷ []

-- four numbers that a run or a machine begins with
abbrev pub starts_in : List Float → List Float
starts_in row = number_at row 0 ∷ number_at row 1 ∷ number_at row 2 ∷ number_at row 3 ∷ []

-- ONE STEP: a is its answer on paper; the image, the result cells and the released row before and after. A refused step leaves all three word for word.
pub record StepWords (a : Answer Float) (image : List ℕ) (cells : List Float) (released : List ℕ) (number : ℕ) (image' : List ℕ) (cells' : List Float) (released' : List ℕ) : Type 0 where
  pub answered : number ≡ a.refusal
  pub machine : image' ≡ cond (is_taken a) (image_over a.machine image) image
  pub after : cells' ≡ written cells a.released
  pub told : released' ≡ cond (is_taken a) (sets released 0 (released_words a.released)) released

abbrev pub step_in : (words : List ℕ) (operands : List Float) (image : List ℕ) (cells : List Float) (code : ℕ) → Answer Float
step_in words operands image cells code = step binary64 (lent words operands cells) (machine_in image) code

-- A RUN: w is the run on paper; the image, the log and the row of answers (steps done, byte place, records written) before and after
pub record RunWords (w : ScheduleRun Float) (image log answer : List ℕ) (number : ℕ) (image' : List ℕ) (cells' : List Float) (log' answer' : List ℕ) : Type 0 where
  pub answered : number ≡ w.refusal
  pub machine : image' ≡ cond (not (eqb w.steps 0)) (image_over w.state.machine image) image
  pub after : cells' ≡ w.state.cells
  pub logged : log' ≡ sets log 0 (log_words w.state.log)
  pub told : answer' ≡ sets answer 0 (w.steps ∷ w.place ∷ length w.state.log ∷ [])

abbrev pub run_in : (words : List ℕ) (operands : List Float) (m : Machine Float) (cells : List Float) (schedule log : List ℕ) → ScheduleRun Float
run_in words operands m cells schedule log = run binary64 (lent words operands cells) (room_in log) schedule m cells

-- the same run of a machine by value: what the loop comes to
pub record RunLogged (w : ScheduleRun Float) (log : List ℕ) (r : Progress) (cells' : List Float) (log' : List ℕ) : Type 0 where
  pub machine : view r.machine ≡ w.state.machine
  pub steps : r.steps ≡ w.steps
  pub place : r.place ≡ w.place
  pub refusal : r.refusal ≡ w.refusal
  pub records : r.records ≡ length w.state.log
  pub after : cells' ≡ w.state.cells
  pub logged : log' ≡ sets log 0 (log_words w.state.log)

-- THE ONE-AT-A-TIME RUN, from the numbers in the row of registers
abbrev pub alone_in : (words : List ℕ) (operands cells registers : List Float) → theory.OneAtATime Float
alone_in words operands cells registers = theory.one_at_a_time binary64 (lent words operands cells) (record { registers = starts_in registers; cells = cells })
