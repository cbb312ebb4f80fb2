-- THE STATEMENTS ON STOP LINES (their proofs: proofs/Theorems.antt), of every three files, each `none` where it is missing.
use Rattle.std.specs.Prelude.{◌≡◌, List, ◌++◌, ℕ, ◌+◌, ◌*◌, ◌≤◌, ◌<◌, length, Float}
use Rattle.std.proofs.Math.Option.{Option, none, some}
use Rattle.seven_bit.specs.SevenBits.{accepted, refused}
use Rattle.list_file.specs.Reading.{list_in}
use Rattle.theory_machine.specs.Machine.{Lent}
use Rattle.printing.specs.Lines.{Fault}
use Rattle.printing.specs.Lines.{Nothing, Missing, Refused}
use Rattle.printing.specs.Ascii.{ascii}
use Rattle.printing.specs.Text.{decimal}
use Rattle.theory_report.specs.Report.{file_fault, list_fault, operands_fault, schedule_fault, areas_fault, bytes_in, lent_of_files, run_of, ran_text, report_text}

-- "in one file missing comes first, then 11, 4, 8": the fault of each file, by its bytes alone
pub record FaultsInOrder : Type 0 where
  -- missing, and then 11, whatever the file's own rule says
  pub missing : (own : List ℕ → Fault) → file_fault none own ≡ Missing
  pub long : (own : List ℕ → Fault) (bytes : List ℕ) → 65536 < length bytes → file_fault (some bytes) own ≡ Refused 11 65536
  -- "operands above 2,048 bytes give 4 at 2048", cut or not
  pub many : (bytes : List ℕ) → length bytes ≤ 65536 → 2048 < length bytes → file_fault (some bytes) operands_fault ≡ Refused 4 2048
  -- "a cut pattern gives 8 at its start": so many whole ones, and then some of its 8 bytes
  pub cut : (whole : ℕ) (bytes : List ℕ) → length bytes ≤ 2048 → whole * 8 < length bytes → length bytes < whole * 8 + 8
      → file_fault (some bytes) operands_fault ≡ Refused 8 (whole * 8)
  pub whole : (whole : ℕ) (bytes : List ℕ) → length bytes ≤ 2048 → length bytes ≡ whole * 8 → file_fault (some bytes) operands_fault ≡ Nothing
  -- "A list refused by the reader gives its number and byte place"
  pub refused_list : (number place : ℕ) (bytes : List ℕ) → length bytes ≤ 65536 → list_in 4096 bytes ≡ refused number place
      → file_fault (some bytes) list_fault ≡ Refused number place
  pub good_list : (words : List ℕ) (end : ℕ) (bytes : List ℕ) → length bytes ≤ 65536 → list_in 4096 bytes ≡ accepted words end
      → file_fault (some bytes) list_fault ≡ Nothing
  pub schedule : (bytes : List ℕ) → length bytes ≤ 65536 → file_fault (some bytes) schedule_fault ≡ Nothing

-- a text is the one line of a fault, with a name
pub record Stopped (name : List ℕ) (fault : Fault) (text : List ℕ) : Type 0 where
  pub missing : fault ≡ Missing → text ≡ ascii "stopped " ++ name ++ ascii " missing\n"
  pub refused : (number place : ℕ) → fault ≡ Refused number place
      → text ≡ ascii "stopped " ++ name ++ ascii " " ++ decimal number ++ ascii " at " ++ decimal place ++ ascii "\n"

-- what a text shows of three files: the line of the first fault, in 01's order; without one, the run
module _ (listFile operandsFile scheduleFile : Option (List ℕ)) where
  abbrev lent_in : Lent Float
  lent_in = lent_of_files (bytes_in listFile) (bytes_in operandsFile)

  pub record FirstShown (text : List ℕ) : Type 0 where
    pub list : Stopped (ascii "list") (file_fault listFile list_fault) text
    pub operands : file_fault listFile list_fault ≡ Nothing → Stopped (ascii "operands") (file_fault operandsFile operands_fault) text
    pub schedule : file_fault listFile list_fault ≡ Nothing → file_fault operandsFile operands_fault ≡ Nothing
        → Stopped (ascii "schedule") (file_fault scheduleFile schedule_fault) text
    pub areas : file_fault listFile list_fault ≡ Nothing → file_fault operandsFile operands_fault ≡ Nothing → file_fault scheduleFile schedule_fault ≡ Nothing
        → Stopped (ascii "areas") (areas_fault lent_in) text
    -- no fault at all
    pub ran : file_fault listFile list_fault ≡ Nothing → file_fault operandsFile operands_fault ≡ Nothing → file_fault scheduleFile schedule_fault ≡ Nothing
        → areas_fault lent_in ≡ Nothing → text ≡ ran_text lent_in (run_of lent_in (bytes_in scheduleFile))

-- "NAME is list, operands or schedule; the first file at fault in that order is shown", whatever the later ones hold; the areas "after all
-- three files are found good"
abbrev pub FirstAtFault : Type 0
FirstAtFault = (listFile operandsFile scheduleFile : Option (List ℕ))
    → FirstShown listFile operandsFile scheduleFile (report_text listFile operandsFile scheduleFile)
