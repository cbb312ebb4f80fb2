-- What an accepted reading says of its parts.
use mathlib.Core.Path.{◌≡◌, refl, ◌∙◌}
use mathlib.Core.Bool.{Bool, true, false, cond}
use mathlib.Core.List.{List}
use Prim.Native.Nat.{ℕ}
use native.Mathlib.Omega.{arith}
use lib.Dec.{eqb}
use borrow.Author.Tests.{eqb-true, ne_eqb}
use Rattle.seven_bit.specs.SevenBits.{Parsed, accepted, refused, number_at}
use Rattle.list_file.specs.Reading.{and_then, owned, field_at}

pub value_of : {A : Type 0} {x y : A} {n m : ℕ} → accepted x n ≡ accepted y m → x ≡ y
value_of e = cc

pub next_of : {A : Type 0} {x y : A} {n m : ℕ} → accepted x n ≡ accepted y m → n ≡ m
next_of e = cc

pub not_accepted {ℓ} : {X : Type ℓ} {A : Type 0} {r p n : ℕ} {x : A} → refused r p ≡ accepted x n → X
not_accepted e = let z : ◌≡◌ {A = ℕ} 0 1 = cc in absurd (omega arith)

-- a field that is accepted has no refusal of its own, and is the number that stands there
pub record Field (own : ℕ → ℕ) (bytes : List ℕ) (at value next : ℕ) : Type 0 where
  pub passes : own value ≡ 0
  pub number : number_at bytes at ≡ accepted value next

pub field_of : (own : ℕ → ℕ) (bytes : List ℕ) (at : ℕ) {value next : ℕ} → field_at own bytes at ≡ accepted value next
    → Field own bytes at value next
unfolding field_at
field_of own bytes at {value} {next} e = go (number_at bytes at) refl e
  where
    tested : (u m : ℕ) (b : Bool) → eqb (own u) 0 ≡ b → number_at bytes at ≡ accepted u m
        → cond b (accepted u m) (refused (own u) at) ≡ accepted value next → Field own bytes at value next
    tested u m true t q e = record { passes = rw (value_of e) at (eqb-true (own u) 0 t); number = q ∙ e }
    tested u m false t q e = not_accepted e

    go : (p : Parsed ℕ) → number_at bytes at ≡ p → owned own at p ≡ accepted value next → Field own bytes at value next
    go (accepted u m) q e = tested u m (eqb (own u) 0) refl q e
    go (refused r p) q e = not_accepted e

-- a field by the number that stands there and what was computed as its own refusal
module _ (own : ℕ → ℕ) (bytes : List ℕ) (at : ℕ) where
  pub field_passes : {value next is : ℕ} → number_at bytes at ≡ accepted value next → is ≡ own value → is ≡ 0
      → field_at own bytes at ≡ accepted value next
  unfolding field_at
  field_passes e o z = rw (e, ← o, z)

  pub field_fails : {value next is : ℕ} → number_at bytes at ≡ accepted value next → is ≡ own value → (is ≡ 0 → ⊥)
      → field_at own bytes at ≡ refused is at
  unfolding field_at
  field_fails {is = is} e o n = rw (e, ← o, ne_eqb is 0 n)

  pub field_broken : {refusal place : ℕ} → number_at bytes at ≡ refused refusal place → field_at own bytes at ≡ refused refusal place
  unfolding field_at
  field_broken e = rw e

-- what comes after an accepted part
pub record Then {A B : Type 0} (part : Parsed A) (later : A → ℕ → Parsed B) (value : B) (end : ℕ) : Type 0 where
  pub first : A
  pub next : ℕ
  pub is : part ≡ accepted first next
  pub rest : later first next ≡ accepted value end

pub then_of : {A B : Type 0} (part : Parsed A) (later : A → ℕ → Parsed B) {value : B} {end : ℕ} → and_then part later ≡ accepted value end
    → Then part later value end
then_of (accepted x n) later e = record { first = x; next = n; is = refl; rest = e }
then_of (refused r p) later e = not_accepted e
