-- The operands as read.
use mathlib.Core.Path.{◌≡◌, refl, ap, ◌∙◌}
use mathlib.Core.Bool.{Bool, true, false}
use mathlib.Core.List.{List}
use Prim.Native.Nat.{ℕ, ◌≤◌}
use native.Mathlib.Omega.{arith}
use borrow.Author.Rules.{rules}
use lib.Dec.{eqb}
use lib.Ieee.{Float}
use lib.ListN.{length}
use borrow.Author.Tests.{eqb-true, eqb-false, ne_eqb}
use Rattle.std.specs.Prelude.{Option, Ok, Err}
use Rattle.words.specs.Instructions.{cell_limit}
use Rattle.words.specs.Check.{Verdict}
use Rattle.words.specs.declared.refusal.Refused as code
use Rattle.words.specs.Refusals.{number}
use Rattle.words.proofs.Refusals.{number_real}
use Rattle.operands_file.specs.Operands.{operands_in}
use Rattle.operands_file.specs.Reading.{OperandsRead, operands_verdict, answered_of, read_answer}
use Rattle.operands_file.proofs.Answered.{good_size, how_many, answered-refused, answered-room}
use Rattle.printing.specs.Lines.{Refused}
use Rattle.printing.specs.declared.Fault.TheVariants as found
use Rattle.theory_report.specs.Report.{verdict_fault, operands_fault}
use Rattle.report_text.specs.Files.{opened, CellsTaken}
use Rattle.report_text.proofs.FileFaults.{own_fault}

verdict_stops : (v : Verdict) → (v.refusal ≡ 0 → ⊥) → Refused v.refusal v.place ≡ verdict_fault v
verdict_stops v f = rw (ne_eqb v.refusal 0 f)

-- a reader with room for every good file answers as the verdict says
module _ (room count : ℕ) (v : Verdict) (enough : v.refusal ≡ 0 → count ≤ room) where
  abbrev answer : OperandsRead
  answer = answered_of room count v

  passes : v.refusal ≡ 0 → answer ≡ record { refusal = 0; place = v.place; count = count }
  passes e = answered-room room count v e (enough e)

  refused_as : (answer.refusal ≡ 0 → ⊥) → Refused answer.refusal answer.place ≡ verdict_fault v
  refused_as f = go (eqb v.refusal 0) refl
    where
      go : (b : Bool) → eqb v.refusal 0 ≡ b → Refused answer.refusal answer.place ≡ verdict_fault v
      go true q = absurd (f (ap (λ (r : OperandsRead). r.refusal) (passes (eqb-true v.refusal 0 q))))
      go false q =
          let n = eqb-false v.refusal 0 q in
          ap (λ (r : OperandsRead). Refused r.refusal r.place) (answered-refused room count v n) ∙ verdict_stops v n

module _ (file : Option (List ℕ)) {bytes : List ℕ} (is : Ok bytes ≡ opened file) (cells₀ : List Float) (room : length cells₀ ≡ cell_limit) where
  abbrev verdict : Verdict
  verdict = operands_verdict (length bytes)

  -- 256 cells are enough for every good file
  few-numbers : verdict.refusal ≡ 0 → length (operands_in bytes) ≤ cell_limit
  few-numbers e = omega (arith, (good_size (length bytes) e).0, how_many bytes)

  enough : verdict.refusal ≡ 0 → length (operands_in bytes) ≤ length cells₀
  enough e = omega (arith, few-numbers e)

  pub cells_refused : (e : code.Refused) {cells : List Float} → record { refusal = number e.refusal; place = e.place; count = 0 } ≡ read_answer bytes cells₀
      → CellsTaken file cells (Err (found.Refused (number e.refusal) e.place))
  cells_refused e a =
      let z = ap (λ (r : OperandsRead). r.refusal) a in
      let own = refused_as (length cells₀) (length (operands_in bytes)) verdict enough (λ q. number_real e.refusal (z ∙ q)) in
      record {
        is = ap (λ (r : OperandsRead). Refused r.refusal r.place) a ∙ own ∙ own_fault operands_fault file is;
        numbers = search rules;
        counted = search rules;
        few = search rules;
      }
