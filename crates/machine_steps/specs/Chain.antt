-- Answers of `step`, chained over any codes; and demand 3 of them. Nothing is said of how an answer was made: only that it meets its contract.
use Rattle.std.specs.Prelude.{◌≡◌, cond, List, [], ◌∷◌, ℕ, ◌+◌, eqb, Float, length}
use Rattle.words.specs.Refusals.{answer_number}
use Rattle.theory_machine.specs.Machine as theory
use Rattle.theory_machine.specs.Tags.{register_count}
use Rattle.theory_machine.specs.Binary64.{binary64}
use Rattle.theory_machine.specs.OneAtATime.{Run}
use Rattle.theory_machine.specs.Entries.{fresh}
use Rattle.theory_machine.specs.Asked.{State, logged, asked}
use Rattle.theory_machine.specs.Statement.{Outcome}
use Rattle.machine_parts.specs.declared.Machine.{Machine}
use Rattle.machine_parts.specs.declared.Stepped.{Stepped}
use Rattle.machine_parts.specs.declared.start.FreshMachine.{FreshMachine}
use Rattle.machine_parts.specs.View.{view, released_by, lent}
use Rattle.machine_parts.specs.Answers.{view_fresh}
use Rattle.machine_steps.specs.Step.{StepAnswer}

-- a machine of the code, its result cells, and what was released so far
pub record Stand : Type 0 where
  pub machine : Machine
  pub cells : List Float
  pub log : List (theory.Record Float)

-- as the theory sees it
abbrev pub seen : Stand → State Float
seen s = record { machine = view s.machine; cells = s.cells; log = s.log }

-- where an accepted answer of `fresh` begins
abbrev pub freshly : FreshMachine → (cells : List Float) → Stand
freshly f cells = record { machine = f.machine; cells = cells; log = [] }

-- where an answer of `step` leads
abbrev pub next : Stand → Stepped → (cells : List Float) → Stand
next s r cells = record { machine = r.machine; cells = cells; log = logged s.log (released_by r.outcome) }

module _ (words : List ℕ) (operands : List Float) where
  -- from one stand to another by answers that meet the contract of `step`, one for each code
  pub data Chained : Stand → List ℕ → Stand → Type 0 where
    here : {s : Stand} → Chained s [] s
    then : {s t : Stand} {code : ℕ} {codes : List ℕ} (r : Stepped) (cells : List Float)
        → StepAnswer words operands s.machine s.cells code r cells
        → Chained (next s r cells) codes t
        → Chained s (code ∷ codes) t

  -- how many of the answers are of steps taken
  abbrev pub taken_in : (s t : Stand) (codes : List ℕ) → Chained s codes t → ℕ
  taken_in s t codes here = 0
  taken_in s t codes (then {codes = rest} r cells a chain) =
      cond (eqb (answer_number r.outcome) 0) 1 0
      + taken_in (next s r cells) t rest chain

  -- THE BRIDGE: chained answers are the theory's `asked`, cells and releases with them
  abbrev pub Bridge : Type 0
  Bridge =
      (s t : Stand) (codes : List ℕ) → Chained s codes t → asked binary64 (lent words operands s.cells) (seen s) codes ≡ seen t

  -- DEMAND 3 OF THE CODE: an accepted answer of `fresh`, then answers of `step` over any codes
  abbrev pub DemandThree : Type 0
  DemandThree =
      (starts cells : List Float) → length starts ≡ register_count → (f : FreshMachine)
      → view_fresh f ≡ fresh binary64 (lent words operands cells) starts
      → answer_number f.outcome ≡ 0
      → (t : Stand) (codes : List ℕ) (chain : Chained (freshly f cells) codes t)
      → let L = lent words operands cells in
      let start : Run Float = record { registers = starts; cells = cells } in
      Outcome binary64 L start (seen t) (taken_in (freshly f cells) t codes chain)
