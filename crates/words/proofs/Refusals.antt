-- Refusals and their numbers: no number is 0, and each is one refusal's alone.
use mathlib.Core.Path.{◌≡◌, refl, sym, ap, ◌∙◌}
use mathlib.Core.Bool.{true, false, true≢false}
use Prim.Native.Nat.{ℕ}
use native.Mathlib.Omega.{arith}
use mathlib.Core.List.{[], ◌∷◌}
use lib.Dec.{eqb}
use lib.ListN.{get_or}
use borrow.Author.Tests.{ne_eqb}
use Rattle.std.specs.Prelude.{Result, Ok, Err, is_ok, is_err, IsErrAnd}
use Rattle.words.specs.declared.refusal.Refusal.{Refusal}
use Rattle.words.specs.declared.refusal.Refusal.TheVariants.{List, Operation, Register, Cell, Code, Order, NotNow, Cut, Number, Left, Room}
use Rattle.words.specs.declared.refusal.Refused.{Refused}
use Rattle.words.specs.Refusals.{number, answer_number, verdict, placed}

-- the way back
abbrev refusal_of : ℕ → Refusal
refusal_of n = get_or (List ∷ List ∷ Operation ∷ Register ∷ Cell ∷ Code ∷ Order ∷ NotNow ∷ Cut ∷ Number ∷ Left ∷ Room ∷ []) n List

number_back : (r : Refusal) → refusal_of (number r) ≡ r
number_back List = refl
number_back Operation = refl
number_back Register = refl
number_back Cell = refl
number_back Code = refl
number_back Order = refl
number_back NotNow = refl
number_back Cut = refl
number_back Number = refl
number_back Left = refl
number_back Room = refl

pub number_exact : (r s : Refusal) → number r ≡ number s → r ≡ s
number_exact r s e = sym (number_back r) ∙ ap refusal_of e ∙ number_back s

pub number_real : (r : Refusal) → number r ≡ 0 → ⊥
number_real List e = omega arith
number_real Operation e = omega arith
number_real Register e = omega arith
number_real Cell e = omega arith
number_real Code e = omega arith
number_real Order e = omega arith
number_real NotNow e = omega arith
number_real Cut e = omega arith
number_real Number e = omega arith
number_real Left e = omega arith
number_real Room e = omega arith

pub answer_exact : (a b : Result Unit Refusal) → answer_number a ≡ answer_number b → a ≡ b
answer_exact (Ok x) (Ok y) e = refl
answer_exact (Ok x) (Err s) e = absurd (number_real s (sym e))
answer_exact (Err r) (Ok y) e = absurd (number_real r e)
answer_exact (Err r) (Err s) e = ap Err (number_exact r s e)

pub verdict_exact : (a b : Result ℕ Refused) → verdict a ≡ verdict b → a ≡ b
verdict_exact (Ok x) (Ok y) e = ap (λ v. Ok v.place) e
verdict_exact (Ok x) (Err s) e = absurd (number_real s.refusal (sym (ap (λ v. v.refusal) e)))
verdict_exact (Err r) (Ok y) e = absurd (number_real r.refusal (ap (λ v. v.refusal) e))
verdict_exact (Err r) (Err s) e =
    (λ i. Err (record { refusal = number_exact r.refusal s.refusal (ap (λ v. v.refusal) e) i; place = (e i).place }))

-- an answer is refused exactly when its number is not 0
pub refused_number : {A : Type 0} (a : Result A Refusal) → is_err a ≡ true → answer_number a ≡ 0 → ⊥
refused_number (Ok x) t e = true≢false (sym t)
refused_number (Err r) t e = number_real r e

pub accepted_number : {A : Type 0} (a : Result A Refusal) → is_err a ≡ false → answer_number a ≡ 0
accepted_number (Ok x) t = refl
accepted_number (Err r) t = absurd (true≢false t)

-- `?` hands a refusal on as it is
pub handed_on : {A E : Type 0} (a : Result A E) (e : E) → IsErrAnd a (λ x. x ≡ e) → a ≡ Err e
handed_on (Ok x) e h = absurd h
handed_on (Err x) e h = ap Err h

-- what it means that an answer came out refused or accepted where it got its place
pub placed_err : (a : Result Unit Refusal) (place : ℕ) {e : Refused} → Err e ≡ placed a place
    → (number e.refusal ≡ answer_number a) × (e.place ≡ place)
placed_err (Ok u) place q = cc
placed_err (Err r) place q = let k : _ ≡ record { refusal = r; place = place } = cc in (ap (λ (x : Refused). number x.refusal) k, ap (λ (x : Refused). x.place) k)

pub placed_ok : (a : Result Unit Refusal) (place : ℕ) {u : Unit} → Ok u ≡ placed a place → 0 ≡ answer_number a
placed_ok (Ok u) place q = refl
placed_ok (Err r) place q = cc

pub ok_is : {A : Type 0} (a : Result A Refusal) → is_ok a ≡ eqb (answer_number a) 0
ok_is (Ok x) = refl
ok_is (Err r) = sym (ne_eqb (number r) 0 (number_real r))
