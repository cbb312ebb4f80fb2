-- Document 01, "The section that is modelled": "Two numbers are the same when their 64 bits are, or when both are not-a-number."
-- The contracts compare numbers by equality; this says that equality is that sameness. `sameness` in proofs/Same.antt proves it.
use Rattle.std.specs.Prelude.{◌≡◌, Bool, true, not, ◌&&◌, ◌⊎◌, ◌↔◌, ℕ, ◌/◌, ◌%◌, ◌^◌, ◌<◌, eqb}
use Rattle.numbers.specs.Number.{number_of}

-- the 64 bits of a pattern, from the highest: the sign, 11 of the exponent, 52 of the fraction
abbrev pub exponent_of : ℕ → ℕ
exponent_of pattern = pattern / 2 ^ 52 % 2 ^ 11

abbrev pub fraction_of : ℕ → ℕ
fraction_of pattern = pattern % 2 ^ 52

-- a pattern of a not-a-number: the exponent is all ones (2,047) and the fraction is not 0, whatever the sign
abbrev pub is_not_a_number : ℕ → Bool
is_not_a_number pattern = eqb (exponent_of pattern) 2047 && not (eqb (fraction_of pattern) 0)

-- of any two patterns of 64 bits: they stand for one number exactly when they are equal, or when both are of a not-a-number
abbrev pub Sameness : Type 0
Sameness =
    (p q : ℕ) → p < 2 ^ 64 → q < 2 ^ 64
    → (number_of p ≡ number_of q) ↔ ((p ≡ q) ⊎ ((is_not_a_number p ≡ true) × (is_not_a_number q ≡ true)))
