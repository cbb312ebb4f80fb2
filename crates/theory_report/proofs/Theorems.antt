-- What is proved of stop lines: the statements stand in specs/Theorem.antt.
use mathlib.Core.Path.{◌≡◌, refl, sym, ◌∙◌, subst}
use mathlib.Core.Option.{Option}
use mathlib.Core.List.{List, ◌++◌, append_assoc}
use Prim.Native.Nat.{ℕ, ◌+◌, ◌*◌, ◌/◌, ◌≤◌, ◌<◌}
use native.Mathlib.Omega.{arith}
use lib.ListN.{length}
use lib.Ieee.{Float}
use borrow.Author.Tests.{lt-ltb, le-ltb}
use Rattle.theory_machine.specs.Machine.{Lent}
use Rattle.operands_file.specs.Operands.{operands_limit}
use Rattle.printing.specs.Lines.{Fault}
use Rattle.printing.specs.Lines.{Nothing}
use Rattle.printing.specs.Text.{decimal}
use Rattle.printing.specs.Words as common
use Rattle.printing.specs.Lines.{or_stopped}
use Rattle.theory_report.specs.Words as word
use Rattle.theory_report.specs.Report.{file_limit, file_fault, list_fault, operands_fault, schedule_fault, areas_fault, bytes_in, lent_of_files, run_of, ran_text, report_text}
use Rattle.theory_report.specs.Theorem.{FaultsInOrder, Stopped, FirstShown, FirstAtFault}

-- so many whole patterns
whole_is : (whole size : ℕ) → whole * 8 ≤ size → size < whole * 8 + 8 → size / 8 * 8 ≡ whole * 8
whole_is whole size h k = omega arith

grouped : (a b c d e f g : List ℕ) → a ++ b ++ c ++ (d ++ e ++ f ++ g) ≡ a ++ b ++ c ++ d ++ e ++ f ++ g
grouped a b c d e f g = simp append_assoc

module _ (name further : List ℕ) (fault : Fault) where
  stop-line : Stopped name fault (or_stopped fault name further)
  stop-line = record { missing = λ e. rw e (simp append_assoc); refused = λ number place e. rw e (grouped common.stopped name common.space (decimal number) common.at (decimal place) common.line_end) }

  past : fault ≡ Nothing → or_stopped fault name further ≡ further
  past e = rw e

-- four faults in a row, each before what follows it
module _ (a b c d : Fault) (p q r s further : List ℕ) where
  abbrev fourth : List ℕ
  fourth = or_stopped d s further

  abbrev third : List ℕ
  third = or_stopped c r fourth

  abbrev second : List ℕ
  second = or_stopped b q third

  abbrev first : List ℕ
  first = or_stopped a p second

  past_two : a ≡ Nothing → b ≡ Nothing → first ≡ third
  past_two e f = past p second a e ∙ past q third b f

  past_three : a ≡ Nothing → b ≡ Nothing → c ≡ Nothing → first ≡ fourth
  past_three e f g = past_two e f ∙ past r fourth c g

  at_second : a ≡ Nothing → Stopped q b first
  at_second e = subst (Stopped q b) (sym (past p second a e)) (stop-line q third b)

  at-third : a ≡ Nothing → b ≡ Nothing → Stopped r c first
  at-third e f = subst (Stopped r c) (sym (past_two e f)) (stop-line r fourth c)

  at-fourth : a ≡ Nothing → b ≡ Nothing → c ≡ Nothing → Stopped s d first
  at-fourth e f g = subst (Stopped s d) (sym (past_three e f g)) (stop-line s further d)

  at_last : a ≡ Nothing → b ≡ Nothing → c ≡ Nothing → d ≡ Nothing → first ≡ further
  at_last e f g h = past_three e f g ∙ past s further d h

module _ (listFile operandsFile scheduleFile : Option (List ℕ)) where
  abbrev L : Lent Float
  L = lent_of_files (bytes_in listFile) (bytes_in operandsFile)

  abbrev ran_as : List ℕ
  ran_as = ran_text L (run_of L (bytes_in scheduleFile))

  abbrev list_fault_lem : Fault
  list_fault_lem = file_fault listFile list_fault

  abbrev operands_fault_lem : Fault
  operands_fault_lem = file_fault operandsFile operands_fault

  abbrev schedule_fault_lem : Fault
  schedule_fault_lem = file_fault scheduleFile schedule_fault

  first-shown : FirstShown listFile operandsFile scheduleFile (report_text listFile operandsFile scheduleFile)
  unfolding report_text
  first-shown = record {
    list = stop-line word.list (second list_fault_lem operands_fault_lem schedule_fault_lem (areas_fault L) word.list word.operands word.schedule word.areas ran_as) list_fault_lem;
    operands = at_second list_fault_lem operands_fault_lem schedule_fault_lem (areas_fault L) word.list word.operands word.schedule word.areas ran_as;
    schedule = at-third list_fault_lem operands_fault_lem schedule_fault_lem (areas_fault L) word.list word.operands word.schedule word.areas ran_as;
    areas = at-fourth list_fault_lem operands_fault_lem schedule_fault_lem (areas_fault L) word.list word.operands word.schedule word.areas ran_as;
    ran = at_last list_fault_lem operands_fault_lem schedule_fault_lem (areas_fault L) word.list word.operands word.schedule word.areas ran_as;
  }

-- THEOREMS

pub faults_in_order : FaultsInOrder
faults_in_order = record {
  missing = λ own. refl;
  long = λ own bytes h. rw (lt-ltb file_limit (length bytes) (omega arith));
  many = λ bytes h k. rw (le-ltb file_limit (length bytes) (omega arith), lt-ltb operands_limit (length bytes) (omega arith));
  cut = λ whole bytes h k l. rw (le-ltb file_limit (length bytes) (omega arith), le-ltb operands_limit (length bytes) (omega arith), whole_is whole (length bytes) (omega arith) l, lt-ltb (whole * 8) (length bytes) k);
  whole = λ whole bytes h k. rw (le-ltb file_limit (length bytes) (omega arith), le-ltb operands_limit (length bytes) (omega arith), le-ltb (length bytes / 8 * 8) (length bytes) (omega arith));
  refused_list = λ number place bytes h e. rw (le-ltb file_limit (length bytes) (omega arith), e);
  good_list = λ words end bytes h e. rw (le-ltb file_limit (length bytes) (omega arith), e);
  schedule = λ bytes h. rw (le-ltb file_limit (length bytes) (omega arith));
}

pub first_at_fault : FirstAtFault
first_at_fault = first-shown
