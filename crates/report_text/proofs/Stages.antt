-- Where a report begins, by the first file at fault.
use mathlib.Core.Path.{◌≡◌, refl, ap, ◌∙◌}
use mathlib.Core.List.{List, []}
use Prim.Native.Nat.{ℕ, ◌≤◌}
use lib.Ieee.{Float}
use lib.ListN.{length, take}
use Rattle.std.specs.Prelude.{Option, Some, Result, Ok, Err}
use Rattle.words.specs.Instructions.{list_limit, cell_limit}
use Rattle.words.specs.Check.{list_check}
use Rattle.theory_machine.specs.Machine.{Lent}
use Rattle.printing.specs.declared.Fault as code
use Rattle.printing.specs.declared.Fault.TheVariants as found
use Rattle.printing.specs.Faults.{told_fault}
use Rattle.printing.specs.Lines.{Fault, Nothing, or_stopped}
use Rattle.theory_report.specs.Report.{file_fault, list_fault, operands_fault, schedule_fault, areas_fault, verdict_fault, bytes_in, run_of, ran_text, report_text}
use Rattle.report_text.specs.declared.begin.Name.{Name}
use Rattle.report_text.specs.declared.begin.Name.TheVariants as name
use Rattle.report_text.specs.declared.begin.Stopped.{Stopped}
use Rattle.report_text.specs.Files.{file_given, fault_of, named, name_text, report_lent, lent_by, Stops, Runs}

-- a stop line is the only line
only_line : (fault : code.Fault) (name further other : List ℕ) → or_stopped (told_fault (Some fault)) name further ≡ or_stopped (told_fault (Some fault)) name other
only_line found.Missing name further other = refl
only_line (found.Refused number place) name further other = refl

module _ {A : Type 0} where
  -- an answer that was named: a fault is the line's, and without one there is none
  stopped : (r : Result A code.Fault) (n : Name) {s : Stopped} (further : List ℕ) → Err s ≡ named r n
      → or_stopped (fault_of r) (name_text n) further ≡ or_stopped (told_fault (Some s.fault)) (name_text s.name) []
  stopped (Ok a) n further e = cc
  stopped (Err f) n {s} further e =
      let k : record { name = n; fault = f } ≡ s = cc in
      only_line f (name_text n) further [] ∙ ap (λ (s : Stopped). or_stopped (told_fault (Some s.fault)) (name_text s.name) []) k

  pub passed : (r : Result A code.Fault) (n : Name) {a : A} → Ok a ≡ named r n → Nothing ≡ fault_of r
  passed (Ok x) n e = refl
  passed (Err f) n e = cc

  pub taken : (r : Result A code.Fault) (n : Name) {a : A} → Ok a ≡ named r n → r ≡ Ok a
  taken (Ok x) n e = cc
  taken (Err f) n e = cc

module _ (list operands schedule : Option (List ℕ)) where
  abbrev L : Lent Float
  L = lent_by list operands schedule

  pub stop_list : {A : Type 0} (r : Result A code.Fault) {s : Stopped} → Err s ≡ named r name.List → fault_of r ≡ file_fault (file_given list) list_fault
      → Stops list operands schedule s
  unfolding report_text
  stop_list r e is = record { text = rw (← is) (stopped r name.List _ e) }

  module _ (one : Nothing ≡ file_fault (file_given list) list_fault) where
    pub stop_operands : {A : Type 0} (r : Result A code.Fault) {s : Stopped} → Err s ≡ named r name.Operands
        → fault_of r ≡ file_fault (file_given operands) operands_fault → Stops list operands schedule s
    unfolding report_text
    stop_operands r e is = record { text = rw (← one, ← is) (stopped r name.Operands _ e) }

    module _ (two : Nothing ≡ file_fault (file_given operands) operands_fault) where
      pub stop_schedule : {A : Type 0} (r : Result A code.Fault) {s : Stopped} → Err s ≡ named r name.Schedule
          → fault_of r ≡ file_fault (file_given schedule) schedule_fault → Stops list operands schedule s
      unfolding report_text
      stop_schedule r e is = record { text = rw (← one, ← two, ← is) (stopped r name.Schedule _ e) }

      module _ (three : Nothing ≡ file_fault (file_given schedule) schedule_fault) where
        -- all three files are found good, and read
        module _ (buffer : List ℕ) (count numbers : ℕ) (w : take count buffer ≡ L.words) (n : numbers ≡ length L.operands) where
          abbrev checked : Fault
          checked = verdict_fault (list_check (record { operands = numbers; results = cell_limit }) (take count buffer))

          same : checked ≡ areas_fault L
          same = rw (w, n)

          pub stop_areas : {A : Type 0} (r : Result A code.Fault) {s : Stopped} → Err s ≡ named r name.Areas → fault_of r ≡ checked
              → Stops list operands schedule s
          unfolding report_text
          stop_areas r e is = record { text = rw (← one, ← two, ← three, ← (is ∙ same)) (stopped r name.Areas _ e) }

          pub runs : {cells : List Float} → Nothing ≡ checked → take numbers cells ≡ L.operands → count ≤ list_limit → numbers ≤ cell_limit
              → Runs list operands schedule buffer cells (record { words = count; operands = numbers })
          unfolding report_text
          runs four m k l = record {
            text = rw (← one, ← two, ← three, ← (four ∙ same));
            words = w;
            numbers = m;
            few_words = k;
            few_numbers = l;
          }

  -- the run that a report tells of
  pub run_text : (buffer : List ℕ) (cells : List Float) (count numbers : ℕ) → take count buffer ≡ L.words → take numbers cells ≡ L.operands
      → ran_text L (run_of L (bytes_in (file_given schedule)))
      ≡ ran_text (report_lent (take count buffer) (take numbers cells)) (run_of (report_lent (take count buffer) (take numbers cells)) (bytes_in (file_given schedule)))
  run_text buffer cells count numbers w m = rw (w, m)
