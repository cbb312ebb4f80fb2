-- The lines of registers and of records, one by one.
use mathlib.Core.Path.{◌≡◌, sym, ap, ◌∙◌}
use mathlib.Core.List.{List, [], ◌∷◌, ◌++◌, map, append_assoc, append-nil}
use Prim.Native.Nat.{ℕ, suc, ◌+◌, ◌*◌, ◌<◌}
use native.Mathlib.Omega.{arith}
use native.Mathlib.Nat.{add-zero, zero-add}
use native.Mathlib.Numerals.{add-one}
use lib.Ieee.{nan}
use lib.ListN.{length, get_or, take}
use lib.Seq.{take-suc, length-take-le}
use Rattle.machine_parts.specs.declared.Operand.TheVariants.{Number}
use Rattle.machine_parts.specs.declared.Register.{Register}
use Rattle.machine_parts.specs.declared.Record.{Record}
use Rattle.machine_parts.specs.View.{view_register, view_record}
use Rattle.theory_report.specs.Report.{register_line, register_lines, record_line, record_lines}

-- what a place beyond the last is read as
abbrev pub no_register : Register
no_register = record { operand = Number nan }

abbrev pub no_record : Record
no_record = record { place = 0; cell = 0; number = nan }

-- the lines of so many registers
abbrev pub first_registers : List Register → (count : ℕ) → List ℕ
first_registers rs count = register_lines 0 (map view_register (take count rs))

register-lines-more : (number : ℕ) (rs : List Register) (r : Register)
    → register_lines number (map view_register (rs ++ r ∷ []))
    ≡ register_lines number (map view_register rs) ++ register_line (number + 2 * length rs) (view_register r)
register-lines-more number [] r = rw (add-zero number) (append-nil (register_line number (view_register r)))
register-lines-more number (x ∷ rs) r =
    let k : number + 2 + 2 * length rs ≡ number + 2 * suc (length rs) = omega arith in
    ap (λ (l : List ℕ). register_line number (view_register x) ++ l) (register-lines-more (number + 2) rs r ∙ rw k)
    ∙ sym (append_assoc (register_line number (view_register x)) (register_lines (number + 2) (map view_register rs)) _)

pub registers-next : (rs : List Register) (i : ℕ) → i < length rs
    → first_registers rs (i + 1) ≡ first_registers rs i ++ register_line (2 * i) (view_register (get_or rs i no_register))
registers-next rs i h =
    rw (add-one i, take-suc rs i no_register h)
    (register-lines-more 0 (take i rs) (get_or rs i no_register) ∙ rw (length-take-le i rs (omega arith), zero-add (2 * i)))

-- the lines of so many records
abbrev pub first_records : List Record → (count : ℕ) → List ℕ
first_records log count = record_lines (map view_record (take count log))

record-lines-more : (rs : List Record) (r : Record) → record_lines (map view_record (rs ++ r ∷ [])) ≡ record_lines (map view_record rs) ++ record_line (view_record r)
record-lines-more [] r = append-nil (record_line (view_record r))
record-lines-more (x ∷ rs) r =
    ap (λ (l : List ℕ). record_line (view_record x) ++ l) (record-lines-more rs r)
    ∙ sym (append_assoc (record_line (view_record x)) (record_lines (map view_record rs)) (record_line (view_record r)))

pub records-next : (log : List Record) (i : ℕ) → i < length log
    → first_records log (i + 1) ≡ first_records log i ++ record_line (view_record (get_or log i no_record))
records-next log i h = rw (add-one i, take-suc log i no_record h) (record-lines-more (take i log) (get_or log i no_record))

pub limit_next : (i limit : ℕ) → (i + 1) * limit ≡ i * limit + limit
limit_next i limit = omega arith
