-- An issue: which instruction a word is, and that the issue of the next word is the issue of that instruction.
use mathlib.Core.Path.{◌≡◌, refl, sym, ◌∙◌}
use Prim.Native.Nat.{ℕ, ◌<◌, ◌^◌}
use native.Mathlib.Omega.{arith}
use lib.Ieee.{Float}
use lib.ListN.{length}
use borrow.Author.Tests.{lt-leb, eq-eqb}
use Rattle.std.specs.Prelude.{Result}
use Rattle.std.proofs.lemmas.Result.{IfOk-weaker}
use Rattle.words.specs.declared.refusal.Refusal.{Refusal}
use Rattle.words.specs.declared.Areas.{Areas}
use Rattle.words.specs.declared.Form.{Form}
use Rattle.words.specs.declared.Form.TheVariants.{Unknown, LD, LDR, CellArithmetic, RegisterArithmetic, STD}
use Rattle.words.specs.Instructions.{form_of, operation_field, r1_field, operand_field}
use Rattle.theory_machine.specs.Instruction.{Instruction, no_instruction, load, store, copy, cell_arithmetic, register_arithmetic, index_of, instruction, decode}
use Rattle.theory_machine.specs.Machine.{Lent, areas_of}
use Rattle.theory_machine.specs.Binary64.{binary64}
use Rattle.theory_machine.specs.Issue.{word_at, refusal_of}
use Rattle.theory_machine.proofs.Words.{WellFormed, word_formed}
use Rattle.machine_parts.specs.declared.Machine.{Machine}
use Rattle.machine_take.specs.Changes.{InRows, instruction_for, RegistersIn, IssueOf, IssuesNext}
use Rattle.machine_take.specs.declared.issue.Issue.{Issue}

-- WHICH INSTRUCTION, by the word's form: r is R1's index
is-asked : (f : Form) (r1 x : ℕ) → instruction f r1 x ≡ instruction_for f (index_of r1) x
is-asked Unknown r1 x = refl
is-asked LD r1 x = refl
is-asked LDR r1 x = refl
is-asked (CellArithmetic o) r1 x = refl
is-asked (RegisterArithmetic o) r1 x = refl
is-asked STD r1 x = refl

registers_in : (areas : Areas) (i : Instruction) → WellFormed areas i → RegistersIn i
registers_in areas no_instruction w = tt
registers_in areas (load r c) w = w.0
registers_in areas (store r c) w = w.0
registers_in areas (copy r x) w = w
registers_in areas (cell_arithmetic o r c) w = w.0
registers_in areas (register_arithmetic o r x) w = w

-- what is read of an accepted word at a place
pub record Reading (L : Lent Float) (place word r operand : ℕ) (f : Form) : Type 0 where
  pub in_list : place < length L.words
  pub is : word ≡ word_at binary64 L place
  pub accepted : refusal_of binary64 L word ≡ 0
  pub r1 : r ≡ index_of (r1_field word)
  pub rest : operand ≡ operand_field word
  pub form : f ≡ form_of (operation_field word)

module _ {L : Lent Float} {place word r operand : ℕ} {f : Form} (w : Reading L place word r operand f) where
  decoded : decode word ≡ instruction_for f r operand
  unfolding decode
  decoded =
      is-asked (form_of (operation_field word)) (r1_field word) (operand_field word)
      ∙ (λ i. instruction_for (sym w.form i) (sym w.r1 i) (sym w.rest i))

  pub well_formed : RegistersIn (instruction_for f r operand)
  well_formed = registers_in (areas_of L) (instruction_for f r operand) (rw decoded at (word_formed (areas_of L) word w.accepted))

module _ (m : Machine) {L : Lent Float} {word r operand : ℕ} {f : Form} (w : Reading L m.next word r operand f) where
  pub issue_goes : length L.words < 2 ^ 64 → (c : Result Issue Refusal) → IssueOf m (instruction_for f r operand) c → IssuesNext m L c
  issue_goes fits c h = record {
    is = rw (lt-leb (length L.words) m.next w.in_list, ← w.is, eq-eqb _ 0 w.accepted, decoded w) h.is;
    within = IfOk-weaker c InRows _ (λ i p. (omega (arith, w.in_list), p)) h.within;
  }
