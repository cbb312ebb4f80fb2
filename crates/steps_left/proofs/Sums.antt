-- A loop that adds up what each element of a row weighs.
use mathlib.Core.Path.{◌≡◌, refl}
use mathlib.Core.List.{List, [], ◌∷◌, map}
use Prim.Native.Nat.{ℕ, ◌+◌, ◌*◌, ◌≤◌, ◌<◌}
use native.Mathlib.Numerals.{add-one}
use native.Mathlib.Omega.{arith}
use lib.ListN.{length, get_or, drop, drop_of_length-le}
use lib.Seq.{drop-cons}
use Rattle.theory_machine.specs.Rows.{sum}

-- a row that is seen through f
pub sum-seen : {A B : Type 0} (w : B → ℕ) (f : A → B) (l : List A) → sum w (map f l) ≡ sum (λ a. w (f a)) l
sum-seen w f [] = refl
sum-seen w f (a ∷ l) = rw (sum-seen w f l)

-- no element weighs more than 5, a cell arithmetic's steps
pub sum_bound : {A : Type 0} (w : A → ℕ) → ((a : A) → w a ≤ 5) → (l : List A) → sum w l ≤ 5 * length l
sum_bound w h [] = omega arith
sum_bound w h (a ∷ l) = omega (arith, h a, sum_bound w h l)

-- total is the sum up to i
pub record Summed {A : Type 0} (w : A → ℕ) (l : List A) (i total : ℕ) : Type 0 where
  pub rest : total + sum w (drop i l) ≡ sum w l

module _ {A : Type 0} {w : A → ℕ} {l : List A} {i total : ℕ} (s : Summed w l i total) where
  pub summed_more : (a : A) {r : ℕ} → i < length l → r ≡ w (get_or l i a) → Summed w l (i + 1) (total + r)
  summed_more a h e = record {
    rest = rw add-one (omega (arith, s.rest, rw (drop-cons l i a h) at s.rest));
  }

  pub summed_all : length l ≤ i → total ≡ sum w l
  summed_all h = omega (arith, rw (drop_of_length-le l h) at s.rest)
