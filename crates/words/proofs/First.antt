-- The refusal of a word: that of the first of its fields that is refused.
use mathlib.Core.Path.{◌≡◌, refl, sym}
use mathlib.Core.List.{[], ◌∷◌}
use Prim.Native.Nat.{ℕ, zero, suc}
use native.Mathlib.Omega.{arith}
use borrow.Author.Tests.{ne_eqb}
use Rattle.words.specs.declared.Areas.{Areas}
use Rattle.words.specs.Instructions.{operation_field, r1_field, operand_field, form_of}
use Rattle.words.specs.Check.{first_of, operation_refusal, register_refusal, operand_refusal, word_refusal}

last-refusal : (n : ℕ) → first_of (n ∷ []) ≡ n
last-refusal zero = refl
last-refusal (suc n) = rw (ne_eqb (suc n) 0 (λ e. omega arith))

module _ (areas : Areas) (word : ℕ) where
  pub by_operation : (n : ℕ) → (n ≡ 0 → ⊥) → n ≡ operation_refusal (operation_field word) → n ≡ word_refusal areas word
  unfolding word_refusal
  by_operation n bad o = rw (← o, ne_eqb n 0 bad)

  pub by_register : (n : ℕ) → (n ≡ 0 → ⊥) → 0 ≡ operation_refusal (operation_field word) → n ≡ register_refusal (r1_field word)
      → n ≡ word_refusal areas word
  unfolding word_refusal
  by_register n bad o r = rw (← o, ← r, ne_eqb n 0 bad)

  pub by_operand : (n : ℕ) → 0 ≡ operation_refusal (operation_field word) → 0 ≡ register_refusal (r1_field word)
      → n ≡ operand_refusal areas (form_of (operation_field word)) (operand_field word) → n ≡ word_refusal areas word
  unfolding word_refusal
  by_operand n o r x = rw (← o, ← r, ← x) (sym (last-refusal n))
