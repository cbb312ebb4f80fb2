-- THE TEXT OF A REPORT (document 01, "The report program"): what the program prints of three files, each `none` where it is missing.
use Rattle.std.specs.Prelude.{cond, List, [], ◌∷◌, ◌++◌, ℕ, ◌+◌, ltb, eqb, length, replicate, Float}
use Rattle.std.proofs.Math.Option.{Option, none, some}
use Rattle.numbers.specs.Number.{pattern_of}
use Rattle.words.specs.Instructions.{cell_limit, list_limit}
use Rattle.words.specs.Check.{Verdict}
use Rattle.words.specs.Check.{list_check}
use Rattle.seven_bit.specs.SevenBits.{Parsed, accepted, refused}
use Rattle.list_file.specs.Reading.{list_in}
use Rattle.operands_file.specs.Operands.{operands_in}
use Rattle.operands_file.specs.Reading.{operands_verdict}
use Rattle.printing.specs.Lines.{Fault}
use Rattle.printing.specs.Lines.{Nothing, Missing, Refused}
use Rattle.printing.specs.Text.{decimal, pattern}
use Rattle.printing.specs.Words.{space, line_end}
use Rattle.printing.specs.Lines.{answer_text, count_line, or_stopped}
use Rattle.theory_machine.specs.Tags.{register_count}
use Rattle.theory_machine.specs.Machine.{Lent, areas_of, Operand, num, tag, Machine, Record}
use Rattle.theory_machine.specs.Entries.{fresh, steps_left}
use Rattle.theory_machine.specs.Binary64.{binary64}
use Rattle.theory_run.specs.Run.{ScheduleRun, run}
use Rattle.theory_report.specs.Words.{list, operands, schedule, areas, steps, refusal, left, log, register, tagged}

-- FAULTS OF A FILE: "in one file missing comes first, then 11, 4, 8"
abbrev pub file_limit : ℕ
file_limit = 65536

-- "A file not named or not opened gives .. missing. A file above 65,536 bytes gives `.. 11 at 65536`"; then what the file's own rule says
abbrev pub file_fault : Option (List ℕ) → (own : List ℕ → Fault) → Fault
file_fault none own = Missing
file_fault (some bytes) own = cond (ltb file_limit (length bytes)) (Refused 11 file_limit) (own bytes)

-- "A list refused by the reader gives its number and byte place"
abbrev pub read_fault : Parsed (List ℕ) → Fault
read_fault (accepted words end) = Nothing
read_fault (refused number place) = Refused number place

abbrev pub list_fault : List ℕ → Fault
list_fault bytes = read_fault (list_in list_limit bytes)

-- a check's verdict: its number and place, or no fault
abbrev pub verdict_fault : Verdict → Fault
verdict_fault v = cond (eqb v.refusal 0) Nothing (Refused v.refusal v.place)

-- "operands above 2,048 bytes give 4 at 2048, and a cut pattern gives 8 at its start"
abbrev pub operands_fault : List ℕ → Fault
operands_fault bytes = verdict_fault (operands_verdict (length bytes))

-- a schedule's own refusals are the run's to show
abbrev pub schedule_fault : List ℕ → Fault
schedule_fault bytes = Nothing

-- THE RUN: what files hold that were found good
abbrev pub bytes_in : Option (List ℕ) → List ℕ
bytes_in none = []
bytes_in (some bytes) = bytes

abbrev pub words_in : Parsed (List ℕ) → List ℕ
words_in (accepted words end) = words
words_in (refused number place) = []

-- the list, the operand cells, "256 result cells"
abbrev pub lent_of_files : (list operands : List ℕ) → Lent Float
lent_of_files list operands = record { words = words_in (list_in list_limit list); operands = operands_in operands; results = cell_limit }

-- "one refused against the areas gives `stopped areas N at PLACE`, with the word's place"
abbrev pub areas_fault : Lent Float → Fault
areas_fault L = verdict_fault (list_check (areas_of L) L.words)

-- "The log has 2,048 records."
abbrev pub log_room : ℕ
log_room = 2048

-- "All registers and 256 result cells start at +0."
abbrev pub nought : Float
nought = binary64.nought

abbrev pub start_of : Lent Float → Machine Float
start_of L = (fresh binary64 L (replicate register_count nought)).machine

unfoldable pub run_of : Lent Float → (schedule : List ℕ) → ScheduleRun Float
run_of L schedule = run binary64 L log_room schedule (start_of L) (replicate cell_limit nought)

-- LINES: "steps done; refusal and byte place; steps left; registers; records; then each record's place, cell and pattern"
abbrev pub refusal_line : (number place : ℕ) → List ℕ
refusal_line number place = refusal ++ answer_text number place

-- a number's pattern, or the tag that is waited for
abbrev pub operand_text : Operand Float → List ℕ
operand_text (num x) = pattern (pattern_of x)
operand_text (tag t) = tagged ++ decimal t

unfoldable pub register_line : (number : ℕ) → Operand Float → List ℕ
register_line number operand = register ++ decimal number ++ space ++ operand_text operand ++ line_end

-- "Registers are 0, 2, 4, 6."
abbrev pub register_lines : (number : ℕ) → List (Operand Float) → List ℕ
register_lines number [] = []
register_lines number (operand ∷ rest) = register_line number operand ++ register_lines (number + 2) rest

unfoldable pub record_line : Record Float → List ℕ
record_line r = decimal r.place ++ space ++ decimal r.cell ++ space ++ pattern (pattern_of r.number) ++ line_end

abbrev pub record_lines : List (Record Float) → List ℕ
record_lines [] = []
record_lines (r ∷ rs) = record_line r ++ record_lines rs

abbrev pub head_text : (done number place still : ℕ) (registers : List (Operand Float)) (records : ℕ) → List ℕ
head_text done number place still registers records =
    count_line steps done ++ refusal_line number place ++ count_line left still ++ register_lines 0 registers ++ count_line log records

abbrev pub page_text : (done number place still : ℕ) (registers : List (Operand Float)) (records : List (Record Float)) → List ℕ
page_text done number place still registers records = head_text done number place still registers (length records) ++ record_lines records

-- what is told of a run that was made
abbrev pub ran_text : Lent Float → ScheduleRun Float → List ℕ
ran_text L r =
    page_text r.steps r.refusal r.place (steps_left binary64 L r.state.machine).left r.state.machine.registers r.state.log

-- "the first file at fault in that order is shown"; the areas "after all three files are found good"
unfoldable pub report_text : (listFile operandsFile scheduleFile : Option (List ℕ)) → List ℕ
report_text listFile operandsFile scheduleFile =
    let L = lent_of_files (bytes_in listFile) (bytes_in operandsFile) in
    or_stopped (file_fault listFile list_fault) list
    (or_stopped (file_fault operandsFile operands_fault) operands
    (or_stopped (file_fault scheduleFile schedule_fault) schedule
    (or_stopped (areas_fault L) areas (ran_text L (run_of L (bytes_in scheduleFile))))))
