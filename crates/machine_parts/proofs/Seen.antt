-- Rows seen through a view, slot by slot.
use mathlib.Core.Path.{◌≡◌, refl, ap, ◌∙◌}
use mathlib.Core.List.{List, [], ◌∷◌, map}
use Prim.Native.Nat.{ℕ, zero, suc, ◌<◌}
use native.Mathlib.Nat.{not-suc-le-zero, le_of_suc-le-suc}
use lib.ListN.{length, get_or, set, get_or-map}

module _ {A B : Type 0} (f : A → B) where
  pub map-set : (l : List A) (i : ℕ) (v : A) → map f (set l i v) ≡ set (map f l) i (f v)
  map-set [] i v = refl
  map-set (a ∷ l) zero v = refl
  map-set (a ∷ l) (suc i) v = ap (λ (r : List B). f a ∷ r) (map-set l i v)

  -- a slot of the seen row is the slot, seen
  pub seen : (l : List A) (i : ℕ) (d : A) {b : B} → f (get_or l i d) ≡ b → get_or (map f l) i (f d) ≡ b
  seen l i d e = get_or-map f l i d ∙ e

-- within a row the default does not count
pub any_default : {A : Type 0} (l : List A) (i : ℕ) (d e : A) → i < length l → get_or l i d ≡ get_or l i e
any_default [] i d e h = absurd (not-suc-le-zero h)
any_default (a ∷ l) zero d e h = refl
any_default (a ∷ l) (suc i) d e h = any_default l i d e (le_of_suc-le-suc h)
