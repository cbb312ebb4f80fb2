-- A 32-bit word is made of its fields, and fields that fit come back out of it.
use mathlib.Core.Path.{◌≡◌}
use Prim.Native.Nat.{ℕ, ◌<◌}
use native.Mathlib.Omega.{arith}
use Rattle.words.specs.Instructions.{word_of, operation_field, r1_field, operand_field}

pub word_of_fields : (word : ℕ) → word_of (operation_field word) (r1_field word) (operand_field word) ≡ word
word_of_fields word = omega arith

module _ (operation r1 operand : ℕ) (narrow : r1 < 16) (short : operand < 4096) where
  pub operation_of_word : operation_field (word_of operation r1 operand) ≡ operation
  operation_of_word = omega arith

  pub r1_of-word : r1_field (word_of operation r1 operand) ≡ r1
  r1_of-word = omega arith

  pub operand_of-word : operand_field (word_of operation r1 operand) ≡ operand
  operand_of-word = omega arith
