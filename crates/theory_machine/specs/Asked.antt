-- Any steps asked for, in any order: a refused one changes nothing; a release writes its cell and adds its record to the log.
use Rattle.std.specs.Prelude.{cond, List, [], ◌∷◌, ◌++◌, ℕ, zero, suc, ◌+◌, set}
use Rattle.std.proofs.Math.Option.{Option, none, some}
use Rattle.theory_machine.specs.Machine.{Kind, Lent, Machine, Record}
use Rattle.theory_machine.specs.Issue.{Answer, is_taken}
use Rattle.theory_machine.specs.Steps.{step}
use Rattle.theory_machine.specs.OneAtATime.{Run}
use Rattle.theory_machine.specs.Entries.{fresh, lowest_step}

-- the machine, the result cells, and the release log
pub record State (A : Type 0) : Type 0 where
  pub machine : Machine A
  pub cells : List A
  pub log : List (Record A)

module _ {A : Type 0} where
  -- the cells with what was released
  abbrev pub written : List A → Option (Record A) → List A
  written cells none = cells
  written cells (some r) = set cells r.cell r.number

  abbrev pub logged : List (Record A) → Option (Record A) → List (Record A)
  logged log none = log
  logged log (some r) = log ++ r ∷ []

  -- the cells with the records of a log, in order
  abbrev pub written_all : List A → List (Record A) → List A
  written_all cells [] = cells
  written_all cells (r ∷ rs) = written_all (written cells (some r)) rs

  abbrev pub after : State A → Answer A → State A
  after s a = record { machine = a.machine; cells = written s.cells a.released; log = logged s.log a.released }

module _ (K : Kind) (L : Lent K.Num) where
  -- one code
  abbrev pub ask : State K.Num → (code : ℕ) → State K.Num
  ask s code = after s (step K L s.machine code)

  abbrev pub asked : State K.Num → (codes : List ℕ) → State K.Num
  asked s [] = s
  asked s (code ∷ codes) = asked (ask s code) codes

  -- how many of the codes are taken
  abbrev pub taken_of : State K.Num → (codes : List ℕ) → ℕ
  taken_of s [] = 0
  taken_of s (code ∷ codes) = cond (is_taken (step K L s.machine code)) 1 0 + taken_of (ask s code) codes

  -- a fresh machine, with the start cells and an empty log
  abbrev pub begin : Run K.Num → State K.Num
  begin start = record { machine = (fresh K L start.registers).machine; cells = start.cells; log = [] }

  -- the lowest step, taken n times or until there is none
  abbrev pub ask_lowest : State K.Num → Option ℕ → State K.Num
  ask_lowest s none = s
  ask_lowest s (some code) = ask s code

  abbrev pub lowest_again : State K.Num → (n : ℕ) → State K.Num
  lowest_again s zero = s
  lowest_again s (suc n) = lowest_again (ask_lowest s (lowest_step K L s.machine).code) n
