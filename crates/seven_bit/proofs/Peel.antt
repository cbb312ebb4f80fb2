-- The first elements of what is left of a row at a place.
use mathlib.Core.Path.{◌≡◌}
use mathlib.Core.List.{List, [], ◌∷◌}
use Prim.Native.Nat.{ℕ, suc, ◌+◌, ◌<◌}
use native.Mathlib.Omega.{arith}
use native.Mathlib.Numerals.{add-one, add-two, add-three}
use lib.ListN.{length, get_or, drop, drop_of_length-le}
use lib.Seq.{drop-cons}

module _ (l : List ℕ) (i : ℕ) where
  pub peel_one : i < length l → drop i l ≡ get_or l i 0 ∷ drop (i + 1) l
  peel_one h = rw (add-one, drop-cons l i 0)

  pub peel_two : i + 1 < length l → drop i l ≡ get_or l i 0 ∷ get_or l (i + 1) 0 ∷ drop (i + 2) l
  peel_two h = rw (add-one i, add-two i, drop-cons l i 0 (omega arith), drop-cons l (suc i) 0 (omega arith))

  pub peel_three : i + 2 < length l → drop i l ≡ get_or l i 0 ∷ get_or l (i + 1) 0 ∷ get_or l (i + 2) 0 ∷ drop (i + 3) l
  peel_three h =
      rw (
        add-one i,
        add-two i,
        add-three i,
        drop-cons l i 0 (omega arith),
        drop-cons l (suc i) 0 (omega arith),
        drop-cons l (suc (suc i)) 0 (omega arith),
      )

  pub peel_last : i + 1 ≡ length l → drop i l ≡ get_or l i 0 ∷ []
  peel_last h = rw (peel_one (omega arith), drop_of_length-le l {i = i + 1} (omega arith))

  pub peel_last_two : i + 2 ≡ length l → drop i l ≡ get_or l i 0 ∷ get_or l (i + 1) 0 ∷ []
  peel_last_two h = rw (peel_two (omega arith), drop_of_length-le l {i = i + 2} (omega arith))
