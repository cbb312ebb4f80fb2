-- A word that has been checked, by its form and fields as the code reads them.
use mathlib.Core.Path.{◌≡◌, refl, sym, ap, ◌∙◌}
use Prim.Native.Nat.{ℕ, ◌<◌}
use Rattle.numbers.specs.declared.Operation.{Operation}
use Rattle.words.specs.declared.Areas.{Areas}
use Rattle.words.specs.declared.Form.{Form}
use Rattle.words.specs.declared.Form.TheVariants.{Unknown, LD, LDR, CellArithmetic, RegisterArithmetic, STD}
use Rattle.theory_machine.specs.Tags.{register_count}
use Rattle.words.specs.Instructions.{operation_field, r1_field, operand_field, form_of}
use Rattle.words.specs.Check.{word_refusal}
use Rattle.theory_machine.specs.Instruction.{instruction, index_of, decode}
use Rattle.theory_machine.proofs.Words.{WellFormed, word_formed, cell_in_area}

pub record Decoded (areas : Areas) (word : ℕ) (form : Form) (r1 operand : ℕ) : Type 0 where
  pub is : decode word ≡ instruction form r1 operand
  pub formed : WellFormed areas (instruction form r1 operand)

pub decoded : (areas : Areas) (word : ℕ) (form : Form) {operation r1 operand : ℕ} {found : Form} → word_refusal areas word ≡ 0
    → operation ≡ operation_field word → found ≡ form_of operation → found ≡ form → r1 ≡ r1_field word → operand ≡ operand_field word
    → Decoded areas word form r1 operand
unfolding decode
decoded areas word form {operation} {r1} {operand} {found} passed o f g r x =
    let known : form_of (operation_field word) ≡ form = ap form_of (sym o) ∙ sym f ∙ g in
    let same : decode word ≡ instruction form r1 operand = rw (r, x, known) in
    record { is = same; formed = rw same at (word_formed areas word passed) }

-- what the code reads of a checked word
module _ (areas : Areas) (word : ℕ) (passed : word_refusal areas word ≡ 0) where
  formed : (f : Form) → form_of (operation_field word) ≡ f → WellFormed areas (instruction f (r1_field word) (operand_field word))
  formed f e = (decoded areas word f passed refl refl e refl refl).formed

  pub never_unknown : form_of (operation_field word) ≡ Unknown → ⊥
  never_unknown e = formed Unknown e

  pub r1_within : index_of (r1_field word) < register_count
  r1_within = go (form_of (operation_field word)) refl
    where
      go : (f : Form) → form_of (operation_field word) ≡ f → index_of (r1_field word) < register_count
      go Unknown e = absurd (never_unknown e)
      go LD e = (formed LD e).0
      go LDR e = (formed LDR e).0
      go (CellArithmetic o) e = (formed (CellArithmetic o) e).0
      go (RegisterArithmetic o) e = (formed (RegisterArithmetic o) e).0
      go STD e = (formed STD e).0

  pub copied_within : form_of (operation_field word) ≡ LDR → index_of (operand_field word) < register_count
  copied_within e = (formed LDR e).1

  pub register_within : (o : Operation) → form_of (operation_field word) ≡ RegisterArithmetic o → index_of (operand_field word) < register_count
  register_within o e = (formed (RegisterArithmetic o) e).1

  pub loaded_within : form_of (operation_field word) ≡ LD → operand_field word < areas.operands
  loaded_within e = cell_in_area areas.operands (operand_field word) (formed LD e).1

  pub cell_within : (o : Operation) → form_of (operation_field word) ≡ CellArithmetic o → operand_field word < areas.operands
  cell_within o e = cell_in_area areas.operands (operand_field word) (formed (CellArithmetic o) e).1

  pub stored_within : form_of (operation_field word) ≡ STD → operand_field word < areas.results
  stored_within e = cell_in_area areas.results (operand_field word) (formed STD e).1

pub ruleset reads_within = (never_unknown, r1_within, copied_within, register_within, loaded_within, cell_within, stored_within)
