-- The three files as a program has them, and where a report begins.
use Rattle.std.specs.Prelude as declared
use Rattle.std.specs.Prelude.{◌≡◌, Some, None, Result, Ok, Err, IfOk, cond, List, [], ℕ, ◌≤◌, ltb, Float, length, take}
use Rattle.std.proofs.Math.Option.{Option, none, some}
use Rattle.words.specs.Instructions.{cell_limit, list_limit}
use Rattle.list_file.specs.Reading.{list_in}
use Rattle.theory_machine.specs.Machine.{Lent}
use Rattle.operands_file.specs.Operands.{operands_in}
use Rattle.printing.specs.declared.Fault as code
use Rattle.printing.specs.declared.Fault.TheVariants as found
use Rattle.printing.specs.Faults.{told_fault}
use Rattle.theory_report.specs.Words as word
use Rattle.printing.specs.Lines.{Fault, Nothing, or_stopped}
use Rattle.theory_report.specs.Report.{file_limit, file_fault, list_fault, operands_fault, bytes_in, words_in, lent_of_files, run_of, ran_text, report_text}
use Rattle.report_text.specs.declared.begin.Name.{Name}
use Rattle.report_text.specs.declared.begin.Name.TheVariants as name
use Rattle.report_text.specs.declared.begin.Stopped.{Stopped}
use Rattle.report_text.specs.declared.begin.Begun.{Begun}

-- what is lent to a report's run: the list, the operand cells, "256 result cells"
abbrev pub report_lent : (words : List ℕ) (operands : List Float) → Lent Float
report_lent words operands = record { words = words; operands = operands; results = cell_limit }

-- a file's bytes, where it was named and opened
abbrev pub file_given : declared.Option (List ℕ) → Option (List ℕ)
file_given None = none
file_given (Some bytes) = some bytes

-- the file's bytes, or what stops every program at it: missing, then 11
abbrev pub opened : declared.Option (List ℕ) → Result (List ℕ) code.Fault
opened None = Err found.Missing
opened (Some bytes) = cond (ltb file_limit (length bytes)) (Err (found.Refused 11 file_limit)) (Ok bytes)

-- the fault of an answer, if there is one
abbrev pub fault_of : {A : Type 0} → Result A code.Fault → Fault
fault_of (Ok a) = Nothing
fault_of (Err fault) = told_fault (Some fault)

-- a fault gets what its line names
abbrev pub named : {A : Type 0} → Result A code.Fault → Name → Result A Stopped
named (Ok a) name = Ok a
named (Err fault) name = Err (record { name = name; fault = fault })

-- "NAME is list, operands or schedule", or areas
abbrev pub name_text : Name → List ℕ
name_text name.List = word.list
name_text name.Operands = word.operands
name_text name.Schedule = word.schedule
name_text name.Areas = word.areas

-- the list as read: its fault; without one, its words stand at the front of the word buffer
pub record ListTaken (file : declared.Option (List ℕ)) (buffer : List ℕ) (answer : Result ℕ code.Fault) : Type 0 where
  pub is : fault_of answer ≡ file_fault (file_given file) list_fault
  pub words : IfOk answer (λ count. take count buffer ≡ words_in (list_in list_limit (bytes_in (file_given file))))
  pub few : IfOk answer (λ count. count ≤ list_limit)

-- the operands as read: their fault; without one, the numbers stand at the front of the cells
pub record CellsTaken (file : declared.Option (List ℕ)) (cells : List Float) (answer : Result ℕ code.Fault) : Type 0 where
  pub is : fault_of answer ≡ file_fault (file_given file) operands_fault
  pub numbers : IfOk answer (λ count. take count cells ≡ operands_in (bytes_in (file_given file)))
  pub counted : IfOk answer (λ count. count ≡ length (operands_in (bytes_in (file_given file))))
  pub few : IfOk answer (λ count. count ≤ cell_limit)

-- WHERE A REPORT BEGINS: at a fault its text is the stop line; without one it is that of the run, the list stands at the front of the word buffer,
-- and the operands stand at the front of the cells
module _ (list operands schedule : declared.Option (List ℕ)) where
  abbrev pub files_text : List ℕ
  files_text = report_text (file_given list) (file_given operands) (file_given schedule)

  abbrev pub lent_by : Lent Float
  lent_by = lent_of_files (bytes_in (file_given list)) (bytes_in (file_given operands))

  pub record Stops (s : Stopped) : Type 0 where
    pub text : files_text ≡ or_stopped (told_fault (Some s.fault)) (name_text s.name) []

  pub record Runs (buffer : List ℕ) (cells : List Float) (b : Begun) : Type 0 where
    pub text : files_text ≡ ran_text lent_by (run_of lent_by (bytes_in (file_given schedule)))
    pub words : take b.words buffer ≡ lent_by.words
    pub numbers : take b.operands cells ≡ lent_by.operands
    pub few_words : b.words ≤ list_limit
    pub few_numbers : b.operands ≤ cell_limit

  abbrev pub BeginsWith : (buffer : List ℕ) (cells : List Float) → Result Begun Stopped → Type 0
  BeginsWith buffer cells (Ok b) = Runs buffer cells b
  BeginsWith buffer cells (Err s) = Stops s
