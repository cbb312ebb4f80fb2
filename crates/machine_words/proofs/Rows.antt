-- Words stored one after another in a lent row.
use mathlib.Core.Path.{◌≡◌, refl}
use mathlib.Core.List.{List, [], ◌∷◌, map}
use Prim.Native.Nat.{ℕ, suc, ◌+◌, ◌*◌, ◌≤◌}
use native.Mathlib.Omega.{arith}
use lib.ListN.{length, drop}
use lib.Seq.{sets, set_out}
use Rattle.machine_words.specs.Image.{row_over, image_length}

-- beyond the row nothing is stored
pub sets_out : {A : Type 0} (l : List A) (i : ℕ) (vs : List A) → length l ≤ i → sets l i vs ≡ l
sets_out l i [] h = refl
sets_out l i (a ∷ vs) h = rw (set_out l i a h) (sets_out l (suc i) vs (omega arith))

-- with so many of the words stored
pub record PutSoFar {A : Type 0} (words row₀ : List A) (place : ℕ) (row : List A) (i : ℕ) : Type 0 where
  pub within : i ≤ length words
  pub same : length row ≡ length row₀
  pub laid : sets row₀ place words ≡ sets row (place + i) (drop i words)

-- with so many of the slots laid down, each of as many words, in a row that has room for all
pub record PutRow {A : Type 0} (words : A → List ℕ) (width from : ℕ) (slots : List A) (row₀ : List ℕ) (i place : ℕ) (row : List ℕ) : Type 0 where
  pub room : place + length (drop i slots) * width ≤ image_length
  pub same : length row ≡ length row₀
  pub laid : row_over words width place (drop i slots) row ≡ row_over words width from slots row₀

-- a row of slots that are seen through f
pub over_seen : {A B : Type 0} (f : A → B) (words : B → List ℕ) (width from : ℕ) (slots : List A) (row : List ℕ)
    → row_over (λ a. words (f a)) width from slots row ≡ row_over words width from (map f slots) row
over_seen f words width from [] row = refl
over_seen f words width from (a ∷ slots) row = over_seen f words width (from + width) slots (sets row from (words (f a)))
