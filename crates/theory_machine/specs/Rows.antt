-- Tests over the places of a row, and sums. Nothing here knows of the machine.
use Rattle.std.specs.Prelude.{Bool, true, cond, ◌&&◌, List, [], ◌∷◌, ℕ, zero, suc, ◌+◌, leb}
use Rattle.std.proofs.Math.Option.{Option, none, some}

-- every test of a list holds
abbrev pub all_of : List Bool → Bool
all_of [] = true
all_of (b ∷ bs) = b && all_of bs

-- the test holds at each index below n
abbrev pub all_below : ℕ → (ℕ → Bool) → Bool
all_below zero p = true
all_below (suc n) p = p n && all_below n p

-- the lowest index, of the n from lo on, at which the test holds
abbrev pub first : (ℕ → Bool) → (lo n : ℕ) → Option ℕ
first p lo zero = none
first p lo (suc n) = let r = first p (suc lo) n in cond (p lo) (some lo) r

-- lo to hi, both included
abbrev pub between : (lo hi x : ℕ) → Bool
between lo hi x = leb lo x && leb x hi

abbrev pub sum : {A : Type 0} → (A → ℕ) → List A → ℕ
sum w [] = 0
sum w (x ∷ xs) = w x + sum w xs

-- every element is so
abbrev pub Every : {A : Type 0} → (A → Type 0) → List A → Type 0
Every Q [] = Unit
Every Q (x ∷ xs) = Q x × Every Q xs
