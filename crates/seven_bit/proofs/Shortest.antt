-- A number's bytes in shortest form, by how many they are.
use mathlib.Core.Path.{◌≡◌}
use mathlib.Core.Bool.{Bool, true, false, cond}
use mathlib.Core.List.{List, [], ◌∷◌}
use Prim.Native.Nat.{ℕ, ◌+◌, ◌/◌, ◌%◌, ◌≤◌, ◌<◌}
use native.Mathlib.Omega.{arith}
use lib.Dec.{ltb}
use lib.ListN.{length}
use borrow.Author.Tests.{lt-ltb, le-ltb}
use Rattle.seven_bit.specs.SevenBits.{bytes_of}

module _ (v : ℕ) where
  pub bytes_one : v < 128 → bytes_of v ≡ v ∷ []
  unfolding bytes_of
  bytes_one h = rw (lt-ltb v 128 h)

  pub bytes_two : 128 ≤ v → v / 128 < 128 → bytes_of v ≡ (128 + v % 128) ∷ (v / 128) ∷ []
  unfolding bytes_of
  bytes_two p h = rw (le-ltb v 128 p, lt-ltb (v / 128) 128 h)

  pub bytes_three : 128 ≤ v → 128 ≤ v / 128 → bytes_of v ≡ (128 + v % 128) ∷ (128 + v / 128 % 128) ∷ (v / 128 / 128) ∷ []
  unfolding bytes_of
  bytes_three p h = rw (le-ltb v 128 p, le-ltb (v / 128) 128 h)

  -- a number has one to three bytes
  pub few_bytes : (0 < length (bytes_of v)) × (length (bytes_of v) ≤ 3)
  unfolding bytes_of
  few_bytes = go (ltb v 128) (ltb (v / 128) 128)
    where
      shape : Bool → Bool → List ℕ
      shape a b = cond a (v ∷ []) ((128 + v % 128) ∷ cond b (v / 128 ∷ []) ((128 + v / 128 % 128) ∷ (v / 128 / 128) ∷ []))

      go : (a b : Bool) → (0 < length (shape a b)) × (length (shape a b) ≤ 3)
      go true b = omega arith
      go false true = omega arith
      go false false = omega arith

  -- and more than one where one group does not hold it
  pub two_or_more : 128 ≤ v → 2 ≤ length (bytes_of v)
  unfolding bytes_of
  two_or_more p = rw (le-ltb v 128 p) (go (ltb (v / 128) 128))
    where
      go : (b : Bool) → 2 ≤ length ((128 + v % 128) ∷ cond b (v / 128 ∷ []) ((128 + v / 128 % 128) ∷ (v / 128 / 128) ∷ []))
      go true = omega arith
      go false = omega arith
