-- The one-at-a-time run: where it stands after some words of the list.
use mathlib.Core.Path.{◌≡◌, refl, ap, ◌∙◌}
use mathlib.Core.List.{List, []}
use Prim.Native.Nat.{ℕ, zero, suc, ◌+◌, ◌≤◌, ◌<◌}
use native.Mathlib.Numerals.{add-one}
use native.Mathlib.Omega.{arith}
use lib.Ieee.{Float}
use lib.ListN.{length, get_or, length-set}
use Rattle.numbers.specs.Number.{apply}
use Rattle.words.specs.Check.{word_refusal}
use Rattle.theory_machine.specs.Instruction.{Instruction, no_instruction, load, store, copy, cell_arithmetic, register_arithmetic, decode}
use Rattle.theory_machine.specs.Machine.{Lent, areas_of}
use Rattle.theory_machine.specs.Issue.{instruction_at}
use Rattle.theory_machine.specs.Steps.{operand_cell}
use Rattle.theory_machine.specs.OneAtATime.{Run, value, execute, run_to}
use Rattle.theory_machine.specs.Entries.{list_refusal}
use Rattle.theory_machine.specs.Binary64.{binary64}
use Rattle.theory_machine.proofs.Words.{passes}
use Rattle.machine_parts.specs.View.{lent, cells_alone}
use Rattle.one_at_a_time.specs.Answers.{at}

-- no instruction adds or takes away a register
module _ (L : Lent Float) where
  four-kept : (i : Instruction) (s : Run Float) → length (execute binary64 L i s).registers ≡ length s.registers
  four-kept no_instruction s = refl
  four-kept (load r c) s = length-set s.registers r (operand_cell binary64 L c)
  four-kept (store r c) s = refl
  four-kept (copy r x) s = length-set s.registers r (value binary64 s x)
  four-kept (cell_arithmetic o r c) s = length-set s.registers r (apply o (value binary64 s r) (operand_cell binary64 L c))
  four-kept (register_arithmetic o r x) s = length-set s.registers r (apply o (value binary64 s r) (value binary64 s x))

  run-four : (s : Run Float) (n : ℕ) → length (run_to binary64 L s n).registers ≡ length s.registers
  run-four s zero = refl
  run-four s (suc n) = four-kept (instruction_at binary64 L n) (run_to binary64 L s n) ∙ run-four s n

module _ (words : List ℕ) (operands starts cells : List Float) where
  pub record Running (registers results : List Float) (place : ℕ) : Type 0 where
    pub within : place ≤ length words
    pub same : length results ≡ length cells
    pub run : at registers results ≡ run_to binary64 (lent words operands cells) (at starts cells) place

module _ {words : List ℕ} {operands starts cells : List Float} where
  pub running_none : Running words operands starts cells starts cells 0
  running_none = record { within = omega arith; same = refl; run = refl }

  module _ {registers results : List Float} {place : ℕ} (s : Running words operands starts cells registers results place) where
    -- the next word has been checked
    pub running_checked : list_refusal binary64 (lent words operands cells) ≡ 0 → place < length words
        → word_refusal (areas_of (lent [] operands results)) (get_or words place 0) ≡ 0
    running_checked z h = rw s.same ((passes binary64 (lent words operands cells) z).sound place h)

    pub running_four : {n : ℕ} → length starts ≡ n → length registers ≡ n
    running_four e = ap (λ (r : Run Float). length r.registers) s.run ∙ run-four (lent words operands cells) (at starts cells) place ∙ e

    pub running_more : {after written : List Float} → place < length words → length written ≡ length results
        → at after written ≡ execute binary64 (cells_alone operands) (decode (get_or words place 0)) (at registers results)
        → Running words operands starts cells after written (place + 1)
    running_more h l e = record {
      within = omega arith;
      same = l ∙ s.same;
      run = rw add-one (e ∙ ap (execute binary64 (cells_alone operands) (decode (get_or words place 0))) s.run);
    }

    pub running_all : length words ≤ place → at registers results ≡ run_to binary64 (lent words operands cells) (at starts cells) (length words)
    running_all h = let e : length words ≡ place = omega (arith, s.within) in rw e s.run
