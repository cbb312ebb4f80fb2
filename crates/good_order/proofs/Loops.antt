-- A row of which each slot passes its test.
use mathlib.Core.Path.{◌≡◌, refl, sym, ap, ◌∙◌}
use mathlib.Core.Bool.{Bool, true, false}
use mathlib.Core.Logic.{⊎_elim}
use mathlib.Core.List.{List, [], ◌∷◌, map}
use Prim.Native.Nat.{ℕ, zero, suc, ◌<◌}
use native.Mathlib.Nat.{not-suc-le-zero, le_of_suc-le-suc}
use native.Mathlib.Omega.{arith}
use lib.ListN.{length, get_or}
use Rattle.std.specs.Bool.{MatchBool}
use Rattle.std.specs.List.{AllWithin, HoldsAt}
use Rattle.theory_machine.specs.Rows.{all_below}
use Rattle.theory_machine.proofs.Rows.{bool_cases, absurd_bool, all_below-at, all_below_of}

-- a slot of a row that is seen through f; the defaults do not count
pub viewed : {A B : Type 0} (f : A → B) (l : List A) (i : ℕ) (a : A) (b : B) → i < length l → get_or (map f l) i b ≡ f (get_or l i a)
viewed f [] i a b h = absurd (not-suc-le-zero h)
viewed f (x ∷ l) zero a b h = refl
viewed f (x ∷ l) (suc i) a b h = viewed f l i a b (le_of_suc-le-suc h)

-- one slot that fails
fails : (n : ℕ) (p : ℕ → Bool) (i : ℕ) → i < n → p i ≡ false → all_below n p ≡ false
fails n p i h e = ⊎_elim (λ (t : all_below n p ≡ true). absurd_bool (all_below-at n p t i h) e) (λ (t : all_below n p ≡ false). t) (bool_cases (all_below n p))

-- the items of all pass the test exactly where the n slots pass p
pub row_passes : {X : Type 0} (test : X → Bool) (x : X) (all : List X) (n : ℕ) (p : ℕ → Bool) → length all ≡ n
    → ((i : ℕ) → i < n → p i ≡ test (get_or all i x)) → (r : Bool)
    → MatchBool r (AllWithin (λ y. test y ≡ true) all 0 (length all)) ((k : ℕ) × (k < length all) × HoldsAt (λ y. test y ≡ false) all k)
    → r ≡ all_below n p
row_passes test x all n p l e true h = sym (all_below_of n p (λ i z. e i z ∙ h i x (omega arith) (omega arith)))
row_passes test x all n p l e false h = sym (fails n p h.0 (omega (arith, h.1)) (e h.0 (omega (arith, h.1)) ∙ h.2 x))

-- a row that is seen through f
pub row_seen : {A B : Type 0} (f : A → B) (test : B → Bool) (a : A) (d : B) (l : List A) (n : ℕ) → length l ≡ n → (r : Bool)
    → MatchBool r (AllWithin (λ x. test (f x) ≡ true) l 0 (length l)) ((k : ℕ) × (k < length l) × HoldsAt (λ x. test (f x) ≡ false) l k)
    → r ≡ all_below n (λ i. test (get_or (map f l) i d))
row_seen f test a d l n e r h =
    row_passes (λ x. test (f x)) a l n (λ i. test (get_or (map f l) i d)) e (λ i z. ap test (viewed f l i a d (omega arith))) r h
