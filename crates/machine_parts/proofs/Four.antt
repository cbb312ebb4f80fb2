-- A row of four, spelt out.
use mathlib.Core.Path.{◌≡◌, refl, sym, ap, ◌∙◌}
use mathlib.Core.List.{List, [], ◌∷◌, map}
use Prim.Native.Nat.{ℕ, ◌<◌}
use native.Mathlib.Omega.{arith}
use lib.ListN.{length, get_or}

pub four : {A : Type 0} (d : A) (l : List A) → length l ≡ 4 → get_or l 0 d ∷ get_or l 1 d ∷ get_or l 2 d ∷ get_or l 3 d ∷ [] ≡ l
four d [] e = absurd (omega arith)
four d (a ∷ []) e = absurd (omega arith)
four d (a ∷ b ∷ []) e = absurd (omega arith)
four d (a ∷ b ∷ c ∷ []) e = absurd (omega arith)
four d (a ∷ b ∷ c ∷ f ∷ []) e = refl
four d (a ∷ b ∷ c ∷ f ∷ g ∷ l) e = absurd (omega arith)

-- a row of four by its elements
pub map_of_four : {A B C : Type 0} (f : A → C) (g : B → C) (d : A) (e : B) (xs : List A) (ys : List B) → length xs ≡ 4 → length ys ≡ 4
    → ((i : ℕ) → i < 4 → g (get_or ys i e) ≡ f (get_or xs i d)) → map g ys ≡ map f xs
map_of_four f g d e xs ys n m h =
    ap (map g) (sym (four e ys m)) ∙ (λ i. h 0 (omega arith) i ∷ h 1 (omega arith) i ∷ h 2 (omega arith) i ∷ h 3 (omega arith) i ∷ []) ∙ ap (map f) (four d xs n)
