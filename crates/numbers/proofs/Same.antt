-- Equality is 01's sameness; patterns and numbers go back and forth; and each contract of this crate determines its result.
use mathlib.Core.Path.{◌≡◌, refl, sym, ap, subst, ◌∙◌}
use mathlib.Core.Bool.{Bool, true, false, not}
use mathlib.Core.Logic.{◌⊎◌, inl, inr}
use Prim.Native.Nat.{ℕ, ◌<◌, ◌^◌}
use lib.Dec.{T}
use lib.Ieee.{Float, nan, binary64, is_nan, fits, to_bits}
use lib.Ieee.Bits.{of_bits-to_bits, to_bits-of_bits}
use Rattle.numbers.specs.Number.{pattern_of, number_of}
use Rattle.numbers.specs.Sameness.{is_not_a_number, Sameness}
use Rattle.numbers.proofs.NotANumber.{is_nan_lem, is_not_a_number_lem}
use Rattle.numbers.proofs.Determined.{Determines, one_answer}
use Rattle.numbers.proofs.computed.Kinds as computed-kinds
use Rattle.numbers.proofs.computed.Reads as computed-reads
use Rattle.numbers.proofs.number_of.Kinds as number-of-kinds
use Rattle.numbers.proofs.number_of.Reads as number-of-reads
use Rattle.numbers.proofs.pattern_of.Kinds as pattern-of-kinds
use Rattle.numbers.proofs.pattern_of.Reads as pattern-of-reads

-- 01: "A program writes every not-a-number as 7FF8000000000000"
pub not_a_number : pattern_of nan ≡ 0x7FF8_0000_0000_0000
unfolding to_bits
not_a_number = refl

-- a number comes back from its pattern. (`fits` holds of every value that a program has.)
pub number_back : (x : Float) → T (fits binary64 x) → number_of (pattern_of x) ≡ x
number_back = of_bits-to_bits binary64

-- a pattern comes back from its number, unless the number is not-a-number
pub pattern_back : (n : ℕ) → n < 2 ^ 64 → T (not (is_nan (number_of n))) → pattern_of (number_of n) ≡ n
pattern_back = to_bits-of_bits binary64

-- 01: "Two numbers are the same when their 64 bits are, or when both are not-a-number"
pub sameness : Sameness
sameness p q fp fq = (apart (is_nan (number_of p)) refl, together)
  where
    apart : (b : Bool) → is_nan (number_of p) ≡ b → number_of p ≡ number_of q → (p ≡ q) ⊎ ((is_not_a_number p ≡ true) × (is_not_a_number q ≡ true))
    apart true n e = inr (is_not_a_number_lem p ∙ n, is_not_a_number_lem q ∙ ap is_nan (sym e) ∙ n)
    apart false n e =
        let a : T (not (is_nan (number_of p))) = subst (λ (b : Bool). T (not b)) (sym n) tt in
        let b : T (not (is_nan (number_of q))) = subst (λ (x : Float). T (not (is_nan x))) e a in
        inl (sym (pattern_back p fp a) ∙ ap pattern_of e ∙ pattern_back q fq b)

    nan-read : (n : ℕ) → is_not_a_number n ≡ true → number_of n ≡ nan
    nan-read n t = is_nan_lem (number_of n) (sym (is_not_a_number_lem n) ∙ t)

    together : (p ≡ q) ⊎ ((is_not_a_number p ≡ true) × (is_not_a_number q ≡ true)) → number_of p ≡ number_of q
    together (inl e) = ap number_of e
    together (inr n) = nan-read p n.0 ∙ sym (nan-read q n.1)

pub computed_determined : Determines 0 computed-kinds.ps computed-kinds.r computed-reads.Post
computed_determined κs a x y s t = one_answer

pub pattern_of_determined : Determines 0 pattern-of-kinds.ps pattern-of-kinds.r pattern-of-reads.Post
pattern_of_determined κs a x y s t = one_answer

pub number_of_determined : Determines 0 number-of-kinds.ps number-of-kinds.r number-of-reads.Post
number_of_determined κs a x y s t = one_answer
