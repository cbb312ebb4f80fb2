-- Decimal digits: how a number's text ends, and how long it is.
use mathlib.Core.Path.{◌≡◌, refl, sym, ap, ◌∙◌}
use mathlib.Core.Bool.{Bool, true, false}
use mathlib.Core.List.{List, [], ◌∷◌, ◌++◌}
use Prim.Native.Nat.{ℕ, zero, suc, ◌-◌, ◌*◌, ◌/◌, ◌%◌, ◌^◌, ◌≤◌, ◌<◌}
use native.Mathlib.Nat.{div-lt_iff_lt-mul, pow-suc}
use native.Mathlib.Omega.{arith}
use lib.Dec.{ltb, leb}
use lib.ListN.{length, length-append}
use borrow.Author.Tests.{lt-ltb, le-ltb, ltb-true, ltb-false, leb-true, leb-false}
use Rattle.printing.specs.Text.{digit, digits_of, decimal, hexadecimal, pattern}

pub digits_one : (more n : ℕ) → n < 10 → digits_of more n ≡ digit n ∷ []
digits_one zero n h = refl
digits_one (suc more) n h = rw (lt-ltb n 10 h)

pub digits_more : (more n : ℕ) → 10 ≤ n → digits_of (suc more) n ≡ digits_of more (n / 10) ++ digit (n % 10) ∷ []
digits_more more n h = rw (le-ltb n 10 h)

-- more than enough room for digits changes nothing
pub digits_enough : (more n : ℕ) → n ≤ more → digits_of (suc more) n ≡ digits_of more n
digits_enough zero n h = digits_one 1 n (omega arith) ∙ sym (digits_one 0 n (omega arith))
digits_enough (suc more) n h = go (digits_enough more (n / 10)) (ltb n 10) refl
  where
    go : (n / 10 ≤ more → digits_of (suc more) (n / 10) ≡ digits_of more (n / 10)) → (b : Bool) → ltb n 10 ≡ b
        → digits_of (suc (suc more)) n ≡ digits_of (suc more) n
    go fewer true e = let k = ltb-true n 10 e in digits_one (suc (suc more)) n k ∙ sym (digits_one (suc more) n k)
    go fewer false e =
        let k = ltb-false n 10 e in
        digits_more (suc more) n k ∙ ap (λ (l : List ℕ). l ++ digit (n % 10) ∷ []) (fewer (omega arith)) ∙ sym (digits_more more n k)

pub digits_decimal : (more n : ℕ) → n ≤ more → digits_of more n ≡ digits_of n n
digits_decimal zero n h = let e : n ≡ 0 = omega arith in rw e
digits_decimal (suc more) n h = go (digits_decimal more n) (leb n more) refl
  where
    go : (n ≤ more → digits_of more n ≡ digits_of n n) → (b : Bool) → leb n more ≡ b → digits_of (suc more) n ≡ digits_of n n
    go fewer true e = let k = leb-true n more e in digits_enough more n k ∙ fewer k
    go fewer false e = let k = leb-false n more e in let q : n ≡ suc more = omega arith in rw q

pub decimal_one : (n : ℕ) → n < 10 → decimal n ≡ digit n ∷ []
unfolding decimal
decimal_one n h = digits_one n n h

pub decimal_more : (n : ℕ) → 10 ≤ n → decimal n ≡ decimal (n / 10) ++ digit (n % 10) ∷ []
unfolding decimal
decimal_more zero h = absurd (omega arith)
decimal_more (suc m) h = digits_more m (suc m) h ∙ rw (digits_decimal m (suc m / 10) (omega arith))

-- a number below a power of ten has no more digits
digits_size : (more k n : ℕ) → n < 10 ^ suc k → length (digits_of more n) ≤ suc k
digits_size zero k n h = omega arith
digits_size (suc more) zero n h = omega (arith, ap length (digits_one (suc more) n h))
digits_size (suc more) (suc k) n h = go (digits_size more k (n / 10)) (ltb n 10) refl
  where
    go : (n / 10 < 10 ^ suc k → length (digits_of more (n / 10)) ≤ suc k) → (b : Bool) → ltb n 10 ≡ b
        → length (digits_of (suc more) n) ≤ suc (suc k)
    go fewer true e = let f = ap length (digits_one (suc more) n (ltb-true n 10 e)) in omega arith
    go fewer false e =
        let f = ap length (digits_more more n (ltb-false n 10 e)) in
        let m : n < 10 ^ suc k * 10 = omega (arith, pow-suc 10 (suc k)) in
        omega (arith, fewer ((div-lt_iff_lt-mul {k = 10} {x = n} {y = 10 ^ suc k} (omega arith)).1 m), length-append (digits_of more (n / 10)) (digit (n % 10) ∷ []))

-- 64 bits: twenty digits
pub decimal_size : (n : ℕ) → n < 18446744073709551616 → length (decimal n) ≤ 20
unfolding decimal
decimal_size n h = digits_size n 19 n (omega arith)

-- HEXADECIMAL
pub hexadecimal_none : (digits n : ℕ) → digits ≡ 0 → hexadecimal digits n ≡ []
hexadecimal_none zero n e = refl
hexadecimal_none (suc digits) n e = absurd (omega arith)

pub hexadecimal_more : (digits n : ℕ) → (digits ≡ 0 → ⊥) → hexadecimal digits n ≡ hexadecimal (digits - 1) (n / 16) ++ digit (n % 16) ∷ []
hexadecimal_more zero n f = absurd (f refl)
hexadecimal_more (suc digits) n f = let e : suc digits - 1 ≡ digits = omega arith in rw e

hexadecimal_size : (digits n : ℕ) → length (hexadecimal digits n) ≡ digits
hexadecimal_size zero n = refl
hexadecimal_size (suc digits) n =
    length-append (hexadecimal digits (n / 16)) (digit (n % 16) ∷ []) ∙ rw (hexadecimal_size digits (n / 16)) (omega arith)

pub length-pattern : (n : ℕ) → length (pattern n) ≡ 16
unfolding pattern
length-pattern n = hexadecimal_size 16 n
