-- A search for the lowest of n indices at which a test holds.
use mathlib.Core.Path.{◌≡◌, refl, ap, ◌∙◌}
use mathlib.Core.Bool.{Bool, true, false}
use mathlib.Core.List.{List, map}
use Prim.Native.Nat.{ℕ, zero, suc, ◌+◌, ◌-◌, ◌≤◌, ◌<◌}
use native.Mathlib.Omega.{arith}
use lib.ListN.{length, get_or}
use Rattle.std.specs.Prelude.{Option, Some, None}
use Rattle.std.specs.List.{AllWithin, HoldsAt}
use Rattle.std.specs.Option.{MatchOption}
use Rattle.theory_machine.specs.Rows.{first}
use Rattle.machine_parts.proofs.Seen.{seen}
use Rattle.machine_free.specs.Free.{view_free_slot}

-- the first i are passed: the answer is that of the rest
record Looking (p : ℕ → Bool) (n i : ℕ) : Type 0 where
  pub within : i ≤ n
  pub left : first p 0 n ≡ first p i (n - i)

module _ (p : ℕ → Bool) (n : ℕ) where
  looking_more : (i : ℕ) → Looking p n i → i < n → p i ≡ false → Looking p n (suc i)
  looking_more i k h e =
      let z : n - i ≡ suc (n - suc i) = omega arith in
      record { within = omega arith; left = k.left ∙ rw (z, e) }

  looking : (i : ℕ) → i ≤ n → ((k : ℕ) → k < i → p k ≡ false) → Looking p n i
  looking zero h f = let z : n - 0 ≡ n = omega arith in record { within = omega arith; left = rw z }
  looking (suc i) h f = looking_more i (looking i (omega arith) (λ k l. f k (omega arith))) (omega arith) (f i (omega arith))

  pub lowest : (r : Option ℕ)
      → MatchOption r ((k : ℕ) → 0 ≤ k → k < n → p k ≡ false) (λ i. (0 ≤ i) × (i < n) × (p i ≡ true) × ((k : ℕ) → 0 ≤ k → k < i → p k ≡ false))
      → view_free_slot r ≡ first p 0 n
  lowest None f = let k = looking n (omega arith) (λ k h. f k (omega arith) h) in let z : n - n ≡ 0 = omega arith in rw (k.left, z)
  lowest (Some i) f =
      let k = looking i (omega (arith, f.1)) (λ k h. f.3 k (omega arith) h) in
      let z : n - i ≡ suc (n - (i + 1)) = omega (arith, f.1) in
      rw (k.left, z, f.2)

-- in a row that is seen through f
module _ {A B : Type 0} (f : A → B) (free : B → Bool) (a : A) (l : List A) where
  tested : (i : ℕ) {b : Bool} → free (f (get_or l i a)) ≡ b → free (get_or (map f l) i (f a)) ≡ b
  tested i e = ap free (seen f l i a refl) ∙ e

  pub lowest_of_row : (n : ℕ) → length l ≡ n → (r : Option ℕ)
      → MatchOption r (AllWithin (λ x. free (f x) ≡ false) l 0 (length l)) (λ i. (i < length l) × HoldsAt (λ x. free (f x) ≡ true) l i × AllWithin (λ x. free (f x) ≡ false) l 0 i)
      → view_free_slot r ≡ first (λ i. free (get_or (map f l) i (f a))) 0 n
  lowest_of_row n e None h = lowest (λ i. free (get_or (map f l) i (f a))) n None (λ k z t. tested k (h k a z (omega arith)))
  lowest_of_row n e (Some i) h =
      lowest (λ i. free (get_or (map f l) i (f a))) n (Some i) (omega arith, omega (arith, h.0), tested i (h.1 a), λ k z t. tested k (h.2 k a z t))
