-- Which fault a file has, by how it was opened.
use mathlib.Core.Path.{◌≡◌, refl, sym, ap}
use mathlib.Core.Bool.{Bool, true, false, cond}
use mathlib.Core.List.{List, []}
use Prim.Native.Nat.{ℕ}
use denote.Bor.{Bor}
use lib.Dec.{ltb}
use lib.ListN.{length}
use Rattle.std.specs.Prelude.{Option, Some, None, Result, Ok, Err, option_copied, unwrap_or}
use Rattle.std.specs.Result.{result_map_both}
use Rattle.printing.specs.declared.Fault as code
use Rattle.printing.specs.declared.Fault.TheVariants as found
use Rattle.printing.specs.Faults.{told_fault}
use Rattle.printing.specs.Lines.{Fault, Refused}
use Rattle.theory_report.specs.Report.{file_limit, file_fault, schedule_fault, bytes_in}
use Rattle.report_text.specs.Files.{file_given, opened, fault_of}

abbrev too_long : code.Fault
too_long = found.Refused 11 file_limit

module _ (own : List ℕ → Fault) where
  pub stopped_fault : (file : Option (List ℕ)) {f : code.Fault} → Err f ≡ opened file → told_fault (Some f) ≡ file_fault (file_given file) own
  stopped_fault None e = ap fault_of e
  stopped_fault (Some bytes) {f} e = go (ltb file_limit (length bytes)) e
    where
      go : (b : Bool) → Err f ≡ cond b (Err too_long) (Ok bytes) → told_fault (Some f) ≡ cond b (Refused 11 file_limit) (own bytes)
      go true e = ap fault_of e
      go false e = cc

  pub own_fault : (file : Option (List ℕ)) {bytes : List ℕ} → Ok bytes ≡ opened file → own bytes ≡ file_fault (file_given file) own
  own_fault None e = cc
  own_fault (Some found) {bytes} e = go (ltb file_limit (length found)) e
    where
      go : (b : Bool) → Ok bytes ≡ cond b (Err too_long) (Ok found) → own bytes ≡ cond b (Refused 11 file_limit) (own found)
      go true e = cc
      go false e = let k : bytes ≡ found = cc in ap own k

pub opened_bytes : (file : Option (List ℕ)) {bytes : List ℕ} → Ok bytes ≡ opened file → bytes_in (file_given file) ≡ bytes
opened_bytes None e = cc
opened_bytes (Some found) {bytes} e = go (ltb file_limit (length found)) e
  where
    go : (b : Bool) → Ok bytes ≡ cond b (Err too_long) (Ok found) → found ≡ bytes
    go true e = cc
    go false e = cc

pub opened_fault : {A : Type 0} (bytes_of : A → List ℕ) (file : Option (List ℕ)) (r : Result A code.Fault) → result_map_both bytes_of (λ fault. fault) r ≡ opened file
    → fault_of r ≡ file_fault (file_given file) schedule_fault
opened_fault bytes_of file (Ok a) e = own_fault schedule_fault file e
opened_fault bytes_of file (Err f) e = stopped_fault schedule_fault file e

-- a file that is missing has no bytes
pub or_none : (file : Option (Bor (List ℕ))) (none : Bor (List ℕ)) → none.now ≡ [] → bytes_in (file_given (option_copied file)) ≡ (unwrap_or file none).now
or_none None none e = sym e
or_none (Some found) none e = refl
