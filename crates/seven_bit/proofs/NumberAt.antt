-- The number at a place of a file, by the tests that the code makes there. a, b and c are the bytes at the place.
use mathlib.Core.Path.{◌≡◌}
use mathlib.Core.List.{List, []}
use Prim.Native.Nat.{ℕ, ◌+◌, ◌*◌, ◌%◌, ◌≤◌, ◌<◌}
use native.Mathlib.Omega.{arith}
use lib.ListN.{length, get_or, drop, drop_of_length-le}
use Rattle.seven_bit.specs.SevenBits.{number_in, accepted, refused, number_at}
use Rattle.seven_bit.proofs.Peel.{peel_one, peel_two, peel_three, peel_last, peel_last_two}
use Rattle.seven_bit.proofs.Groups.{one_byte, cut-after_one, zero_second, two_bytes, cut-after-two, zero_third, three_bytes, large_third}

module _ (bytes : List ℕ) (at : ℕ) where
  pub at_end : length bytes ≤ at → refused 8 at ≡ number_at bytes at
  unfolding number_at number_in
  at_end h = rw (drop_of_length-le bytes h)

  module _ {a : ℕ} (first : a ≡ get_or bytes at 0) where
    pub at_one : at < length bytes → a < 128 → accepted a (at + 1) ≡ number_at bytes at
    unfolding number_at
    at_one h p = rw (peel_one bytes at h, ← first, one_byte a (drop (at + 1) bytes) p)

    module _ (more : 128 ≤ a) where
      pub at-cut_one : at + 1 ≡ length bytes → refused 8 at ≡ number_at bytes at
      unfolding number_at
      at-cut_one h = rw (peel_last bytes at h, ← first, cut-after_one a [] more)

      module _ {b : ℕ} (second : b ≡ get_or bytes (at + 1) 0) where
        pub at_zero_second : at + 1 < length bytes → b ≡ 0 → refused 9 at ≡ number_at bytes at
        unfolding number_at
        at_zero_second h z = rw (peel_two bytes at h, ← first, ← second, z, zero_second a (drop (at + 2) bytes) more)

        pub at-two : at + 1 < length bytes → (b ≡ 0 → ⊥) → b < 128 → accepted (a % 128 + b * 128) (at + 2) ≡ number_at bytes at
        unfolding number_at
        at-two h n p = rw (peel_two bytes at h, ← first, ← second, two_bytes a (drop (at + 2) bytes) more b (omega (arith, n)) p)

        module _ (again : 128 ≤ b) where
          pub at-cut-two : at + 2 ≡ length bytes → refused 8 at ≡ number_at bytes at
          unfolding number_at
          at-cut-two h = rw (peel_last_two bytes at h, ← first, ← second, cut-after-two a [] more b again)

          module _ {c : ℕ} (third : c ≡ get_or bytes (at + 2) 0) (here : at + 2 < length bytes) where
            pub at_zero_third : c ≡ 0 → refused 9 at ≡ number_at bytes at
            unfolding number_at
            at_zero_third z =
                rw (peel_three bytes at here, ← first, ← second, ← third, z, zero_third a (drop (at + 3) bytes) more b again)

            pub at_large_third : 3 < c → refused 9 at ≡ number_at bytes at
            unfolding number_at
            at_large_third p =
                rw (peel_three bytes at here, ← first, ← second, ← third, large_third a (drop (at + 3) bytes) more b again c p)

            pub at_three : (c ≡ 0 → ⊥) → c ≤ 3 → accepted (a % 128 + (b % 128 + c * 128) * 128) (at + 3) ≡ number_at bytes at
            unfolding number_at
            at_three n p =
                rw (
                  peel_three bytes at here,
                  ← first,
                  ← second,
                  ← third,
                  three_bytes a (drop (at + 3) bytes) more b again c (omega (arith, n)) p,
                )
