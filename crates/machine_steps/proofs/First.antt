-- A search from the lowest index on, one index at a time.
use mathlib.Core.Path.{◌≡◌, ◌∙◌}
use mathlib.Core.Bool.{Bool, true, false}
use mathlib.Core.Option.{none, some}
use Prim.Native.Nat.{ℕ, zero, suc, ◌+◌, ◌-◌, ◌≤◌, ◌<◌}
use native.Mathlib.Nat.{not-suc-le-zero}
use native.Mathlib.Numerals.{add-one}
use native.Mathlib.Omega.{arith}
use Rattle.theory_machine.specs.Rows.{first}

module _ (p : ℕ → Bool) where
  -- the search among the first n goes on at i
  pub record Searching (n i : ℕ) : Type 0 where
    pub within : i ≤ n
    pub same : first p 0 n ≡ first p i (n - i)

  pub searching_none : (n : ℕ) → Searching n 0
  searching_none n = let e : n - 0 ≡ n = omega arith in record { within = omega arith; same = rw e }

  one_more : (i k : ℕ) → 0 < k → p i ≡ false → first p i k ≡ first p (suc i) (k - 1)
  one_more i zero h e = absurd (not-suc-le-zero h)
  one_more i (suc k) h e = let s : suc k - 1 ≡ k = omega arith in rw (e, s)

  found : (i k : ℕ) → 0 < k → p i ≡ true → first p i k ≡ some i
  found i zero h e = absurd (not-suc-le-zero h)
  found i (suc k) h e = rw e

  module _ {n i : ℕ} (s : Searching n i) where
    pub searching_more : i < n → p i ≡ false → Searching n (i + 1)
    searching_more h e =
        let k : n - i - 1 ≡ n - (i + 1) = omega arith in
        record { within = omega arith; same = s.same ∙ one_more i (n - i) (omega arith) e ∙ rw (k, add-one) }

    pub searching_found : i < n → p i ≡ true → first p 0 n ≡ some i
    searching_found h e = s.same ∙ found i (n - i) (omega arith) e

    pub searching_all : n ≤ i → first p 0 n ≡ none
    searching_all h = let k : n - i ≡ 0 = omega arith in s.same ∙ rw k
