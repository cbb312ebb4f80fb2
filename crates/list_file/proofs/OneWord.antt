-- A word, number by number: each is broken, or fails its own test, or goes on to the next.
use mathlib.Core.Path.{◌≡◌, refl}
use mathlib.Core.List.{List}
use Prim.Native.Nat.{ℕ}
use Rattle.words.specs.Instructions.{word_of, form_of}
use Rattle.words.specs.Check.{operation_refusal, register_refusal, operand_refusal, no_areas}
use Rattle.seven_bit.specs.SevenBits.{accepted, refused, number_at}
use Rattle.list_file.specs.Reading.{operand_at, r1_at, word_at}
use Rattle.list_file.proofs.Inverse.{field_passes, field_fails, field_broken}

module _ (bytes : List ℕ) (at : ℕ) where
  pub operation_broken : {refusal place : ℕ} → number_at bytes at ≡ refused refusal place → word_at bytes at ≡ refused refusal place
  unfolding word_at
  operation_broken e = rw (field_broken _ _ _ e)

  pub operation_fails : {value next is : ℕ} → number_at bytes at ≡ accepted value next → is ≡ operation_refusal value → (is ≡ 0 → ⊥)
      → word_at bytes at ≡ refused is at
  unfolding word_at
  operation_fails e o n = rw (field_fails operation_refusal _ _ e o n)

  pub operation_goes : {value next : ℕ} → number_at bytes at ≡ accepted value next → 0 ≡ operation_refusal value → word_at bytes at ≡ r1_at value bytes next
  unfolding word_at
  operation_goes e o = rw (field_passes operation_refusal _ _ e o refl)

  module _ (operation : ℕ) where
    pub r1_broken : {refusal place : ℕ} → number_at bytes at ≡ refused refusal place → r1_at operation bytes at ≡ refused refusal place
    unfolding r1_at
    r1_broken e = rw (field_broken _ _ _ e)

    pub r1_fails : {value next is : ℕ} → number_at bytes at ≡ accepted value next → is ≡ register_refusal value → (is ≡ 0 → ⊥)
        → r1_at operation bytes at ≡ refused is at
    unfolding r1_at
    r1_fails e o n = rw (field_fails register_refusal _ _ e o n)

    pub r1_goes : {value next : ℕ} → number_at bytes at ≡ accepted value next → 0 ≡ register_refusal value
        → r1_at operation bytes at ≡ operand_at operation value bytes next
    unfolding r1_at
    r1_goes e o = rw (field_passes register_refusal _ _ e o refl)

    module _ (r1 : ℕ) where
      pub operand_broken : {refusal place : ℕ} → number_at bytes at ≡ refused refusal place → operand_at operation r1 bytes at ≡ refused refusal place
      unfolding operand_at
      operand_broken e = rw (field_broken _ _ _ e)

      pub operand_fails : {value next is : ℕ} → number_at bytes at ≡ accepted value next → is ≡ operand_refusal no_areas (form_of operation) value
          → (is ≡ 0 → ⊥) → operand_at operation r1 bytes at ≡ refused is at
      unfolding operand_at
      operand_fails e o n = rw (field_fails (operand_refusal no_areas (form_of operation)) _ _ e o n)

      pub operand_goes : {value next : ℕ} → number_at bytes at ≡ accepted value next → 0 ≡ operand_refusal no_areas (form_of operation) value
          → operand_at operation r1 bytes at ≡ accepted (word_of operation r1 value) next
      unfolding operand_at
      operand_goes e o = rw (field_passes (operand_refusal no_areas (form_of operation)) _ _ e o refl)
