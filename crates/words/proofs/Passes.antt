-- A word that passes: none of its fields is refused; a list that passes: none of its words is.
use mathlib.Core.Path.{◌≡◌, refl}
use mathlib.Core.Bool.{cond}
use mathlib.Core.List.{List, [], ◌∷◌}
use Prim.Native.Nat.{ℕ, zero, suc}
use native.Mathlib.Omega.{arith}
use lib.Dec.{eqb}
use borrow.Author.Tests.{ne_eqb}
use Rattle.words.specs.Check.{Verdict}
use Rattle.words.specs.declared.Areas.{Areas}
use Rattle.words.specs.Instructions.{operation_field, r1_field, operand_field, form_of}
use Rattle.words.specs.Check.{operation_refusal, register_refusal, operand_refusal, first_of, word_refusal, first_bad}

pub none_first : (n : ℕ) (ns : List ℕ) → first_of (n ∷ ns) ≡ 0 → (n ≡ 0) × (first_of ns ≡ 0)
none_first zero ns e = (refl, e)
none_first (suc n) ns e = let z : suc n ≡ 0 = rw (ne_eqb (suc n) 0 (λ z. omega arith)) at e in absurd (omega arith)

pub record WordPasses (areas : Areas) (word : ℕ) : Type 0 where
  pub operation : operation_refusal (operation_field word) ≡ 0
  pub r1 : register_refusal (r1_field word) ≡ 0
  pub operand : operand_refusal areas (form_of (operation_field word)) (operand_field word) ≡ 0

pub word_passes : (areas : Areas) (word : ℕ) → word_refusal areas word ≡ 0 → WordPasses areas word
unfolding word_refusal
word_passes areas word e =
    let third = operand_refusal areas (form_of (operation_field word)) (operand_field word) ∷ [] in
    let one = none_first _ (register_refusal (r1_field word) ∷ third) e in
    let two = none_first _ third one.1 in
    record { operation = one.0; r1 = two.0; operand = (none_first _ [] two.1).0 }

pub list_passes : (areas : Areas) (k w : ℕ) (ws : List ℕ) → (first_bad areas k (w ∷ ws)).refusal ≡ 0
    → (word_refusal areas w ≡ 0) × ((first_bad areas (suc k) ws).refusal ≡ 0)
list_passes areas k w ws e = go (word_refusal areas w) e
  where
    go : (n : ℕ)
        → ◌≡◌ {A = ℕ} (cond {A = Verdict} (eqb n 0) (first_bad areas (suc k) ws) (record { refusal = n; place = k })).refusal 0
        → (n ≡ 0) × ((first_bad areas (suc k) ws).refusal ≡ 0)
    go zero e = (refl, e)
    go (suc n) e = let z : suc n ≡ 0 = rw (ne_eqb (suc n) 0 (λ z. omega arith)) at e in absurd (omega arith)
