-- What the bytes at a place give as a number, case by case as the code tests them.
use mathlib.Core.Path.{◌≡◌, refl}
use mathlib.Core.Bool.{Bool, true, false, cond}
use mathlib.Core.List.{List, [], ◌∷◌}
use Prim.Native.Nat.{ℕ, ◌+◌, ◌*◌, ◌%◌, ◌≤◌, ◌<◌}
use native.Mathlib.Omega.{arith}
use lib.Dec.{leb}
use borrow.Author.Tests.{lt-leb, le-leb, leb-false, le-ltb, lt-ltb, ne_eqb}
use Rattle.seven_bit.specs.SevenBits.{whole, broken, number_in, limited, joined, last_group}

module _ (a : ℕ) (bytes : List ℕ) where
  pub one_byte : a < 128 → number_in (a ∷ bytes) ≡ whole a 1
  unfolding number_in
  one_byte h = rw (lt-leb 128 a h, le-ltb 65535 a (omega arith))

  module _ (first : 128 ≤ a) where
    pub cut-after_one : number_in (a ∷ []) ≡ broken 8
    unfolding number_in
    cut-after_one = rw (le-leb 128 a first)

    pub zero_second : number_in (a ∷ 0 ∷ bytes) ≡ broken 9
    unfolding number_in
    zero_second = rw (le-leb 128 a first)

    module _ (b : ℕ) where
      pub two_bytes : 0 < b → b < 128 → number_in (a ∷ b ∷ bytes) ≡ whole (a % 128 + b * 128) 2
      unfolding number_in
      two_bytes p h =
          rw (le-leb 128 a first, lt-leb 128 b h, ne_eqb b 0 (λ e. omega arith), le-ltb 65535 (a % 128 + b * 128) (omega arith))

      module _ (second : 128 ≤ b) where
        pub cut-after-two : number_in (a ∷ b ∷ []) ≡ broken 8
        unfolding number_in
        cut-after-two = rw (le-leb 128 a first, le-leb 128 b second)

        pub zero_third : number_in (a ∷ b ∷ 0 ∷ bytes) ≡ broken 9
        unfolding number_in
        zero_third = rw (le-leb 128 a first, le-leb 128 b second)

        pub three_bytes : (c : ℕ) → 0 < c → c ≤ 3 → number_in (a ∷ b ∷ c ∷ bytes) ≡ whole (a % 128 + (b % 128 + c * 128) * 128) 3
        unfolding number_in
        three_bytes c p h =
            rw (
              le-leb 128 a first,
              le-leb 128 b second,
              lt-leb 128 c (omega arith),
              ne_eqb c 0 (λ e. omega arith),
              le-ltb 65535 (a % 128 + (b % 128 + c * 128) * 128) (omega arith),
            )

        -- a third byte above 3 has its top bit set, or makes the number too large
        pub large_third : (c : ℕ) → 3 < c → number_in (a ∷ b ∷ c ∷ bytes) ≡ broken 9
        unfolding number_in
        large_third c h = rw (le-leb 128 a first, le-leb 128 b second) (go (leb 128 c) refl)
          where
            go : (t : Bool) → leb 128 c ≡ t → limited (joined a (joined b (cond t (broken 9) (last_group c)))) ≡ broken 9
            go true e = refl
            go false e =
                rw (ne_eqb c 0 (λ z. omega arith), lt-ltb 65535 (a % 128 + (b % 128 + c * 128) * 128) (omega (arith, leb-false 128 c e)))
