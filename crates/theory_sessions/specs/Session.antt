-- A row of the table: what is done, and what must come out. `found` computes it from the definitions of crates theory_machine, list_file, words and theory_report.
use Rattle.std.specs.Prelude.{Bool, true, List, [], ◌∷◌, map, ℕ, length, replicate, take, Float}
use Rattle.std.proofs.Math.Option.{Option, none}
use Rattle.words.specs.Check.{list_check, list_check_alone}
use Rattle.list_file.specs.Reading.{read_answer, read_words}
use Rattle.list_file.specs.Writing.{write_answer, write_bytes}
use Rattle.theory_machine.specs.Machine.{Lent, Operand, num, Record}
use Rattle.theory_machine.specs.GoodOrder.{drained}
use Rattle.theory_machine.specs.Issue.{Answer, taken}
use Rattle.theory_machine.specs.Steps.{step}
use Rattle.theory_machine.specs.OneAtATime.{Run}
use Rattle.theory_machine.specs.Entries.{fresh, one_at_a_time, steps_left, lowest_step}
use Rattle.theory_machine.specs.Asked.{State, ask, begin}
use Rattle.theory_machine.specs.Binary64.{binary64}
use Rattle.theory_machine.specs.GivenMachines.{Row as GivenRow, IssueRow, of_word}
use Rattle.theory_report.specs.Report.{report_text}
use Rattle.theory_sessions.specs.Numbers.{n1·5}
use Rattle.theory_sessions.specs.Scheduled.{Scheduled, RanSeen, ran_seen}

-- A SESSION: the list, the operand cells, the four start numbers, the result cells at the start, and the codes asked for
pub record Session : Type 0 where
  pub words : List ℕ
  pub operands : List Float
  pub starts : List Float
  pub cells : List Float
  pub codes : List ℕ

-- WHAT IS SEEN OF IT: the refusal of a fresh machine; the refusal of each code; then registers, result cells, log, steps left, whether
-- drained, the lowest step; and the one-at-a-time run
pub record Seen : Type 0 where
  pub fresh : ℕ
  pub answers : List ℕ
  pub registers : List (Operand Float)
  pub cells : List Float
  pub log : List (Record Float)
  pub left : ℕ
  pub drained : Bool
  pub lowest : Option ℕ
  pub alone : Run Float

-- a session that ends drained, with these registers and cells in the one-at-a-time run too
abbrev pub ended : (answers : List ℕ) (registers cells : List Float) (log : List (Record Float)) → Seen
ended answers registers cells log = record {
  fresh = 0;
  answers = answers;
  registers = map num registers;
  cells = cells;
  log = log;
  left = 0;
  drained = true;
  lowest = none;
  alone = record { registers = registers; cells = cells };
}

abbrev pub session_lent : Session → Lent Float
session_lent x = record { words = x.words; operands = x.operands; results = length x.cells }

abbrev pub start_of : Session → Run Float
start_of x = record { registers = x.starts; cells = x.cells }

abbrev watch : Lent Float → State Float → List ℕ → State Float × List ℕ
watch L s [] = (s, [])
watch L s (code ∷ codes) = let r = watch L (ask binary64 L s code) codes in (r.0, (step binary64 L s.machine code).refusal ∷ r.1)

unfoldable pub seen : Session → Seen
seen x =
    let L = session_lent x in
    let r = watch L (begin binary64 L (start_of x)) x.codes in
    let m = r.0.machine in
    record {
      fresh = (fresh binary64 L x.starts).refusal;
      answers = r.1;
      registers = m.registers;
      cells = r.0.cells;
      log = r.0.log;
      left = (steps_left binary64 L m).left;
      drained = drained (length x.words) m;
      lowest = (lowest_step binary64 L m).code;
      alone = (one_at_a_time binary64 L (start_of x)).run;
    }

-- A ROW: what is done, and what must come out
pub data Row : Type 0 where
  -- a session
  session : Session → Seen → Row
  -- the run of a schedule
  ran : Scheduled → RanSeen → Row
  -- one step of a given machine: its refusal
  given : GivenRow Float → Row
  -- an issue into a given machine: the machine after it
  issued : IssueRow Float → Row
  -- the check of a list against areas of so many cells, and without areas: refusal and place
  checked : (operands results : ℕ) (words : List ℕ) (refusal place : ℕ) → Row
  checked_alone : (words : List ℕ) (refusal place : ℕ) → Row
  -- a list file read, with room for eight words: refusal, place, the words; and written, with room for sixteen bytes: the bytes
  read : (file : List ℕ) (refusal place : ℕ) (words : List ℕ) → Row
  written : (words file : List ℕ) → Row
  -- a report of three files, `none` where one is missing: its text
  printed : (list operands schedule : Option (List ℕ)) (text : List ℕ) → Row

pub data Result : Type 0 where
  of_session : Seen → Result
  of_run : RanSeen → Result
  of_step : (refusal : ℕ) → Result
  of_issue : Answer Float → Result
  of_check : (refusal place : ℕ) → Result
  of_read : (count refusal place : ℕ) → (words : List ℕ) → Result
  of_write : (length refusal : ℕ) → (file : List ℕ) → Result
  of_report : (text : List ℕ) → Result

abbrev room : List ℕ
room = replicate 8 0

abbrev space : List ℕ
space = replicate 16 0

-- what the definitions give
abbrev pub found : Row → Result
found (session x e) = of_session (seen x)
found (ran x e) = of_run (ran_seen x)
found (given r) = of_step (step binary64 r.lent r.machine r.code).refusal
found (issued r) = of_issue (step binary64 (of_word binary64 n1·5 r.word) r.machine 0)
found (checked operands results words n p) = let c = list_check (record { operands = operands; results = results }) words in of_check c.refusal c.place
found (checked_alone words n p) = let c = list_check_alone words in of_check c.refusal c.place
found (read file n p words) =
    let r = read_answer file room in of_read r.count r.refusal r.place (take r.count (read_words file room))
found (written words file) =
    let w = write_answer words space in of_write w.length w.refusal (take w.length (write_bytes words space))
found (printed list operands schedule text) = of_report (report_text list operands schedule)

-- what must come out
abbrev pub wanted : Row → Result
wanted (session x e) = of_session e
wanted (ran x e) = of_run e
wanted (given r) = of_step r.refusal
wanted (issued r) = of_issue (taken r.after)
wanted (checked operands results words n p) = of_check n p
wanted (checked_alone words n p) = of_check n p
wanted (read file n p words) = of_read (length words) n p words
wanted (written words file) = of_write (length file) 0 file
wanted (printed list operands schedule text) = of_report text
