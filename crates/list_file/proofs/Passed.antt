-- An accepted count, and a row that is stored or copied over a buffer's start.
use mathlib.Core.Path.{◌≡◌, refl}
use mathlib.Core.Bool.{Bool, true, false, cond}
use mathlib.Core.List.{List, [], ◌∷◌, ◌++◌}
use Prim.Native.Nat.{ℕ, suc, ◌+◌, ◌≤◌, ◌<◌}
use native.Mathlib.Omega.{arith}
use native.Mathlib.Nat.{zero-add}
use native.Mathlib.Numerals.{add-one}
use lib.Dec.{ltb}
use lib.ListN.{length, get_or, set, take, drop}
use lib.Seq.{sets, sets-eq, paste-suc, length-paste, take-length}
use borrow.Author.Tests.{ltb-false}
use Rattle.words.specs.Instructions.{list_limit}
use Rattle.words.specs.Check.{first_of}
use Rattle.list_file.specs.Reading.{count_refusal, over}

-- a row stored from the start of a buffer with room for it stands over the buffer
pub sets_over : {A : Type 0} (row buffer : List A) → length row ≤ length buffer → sets buffer 0 row ≡ over row buffer
sets_over row buffer h = rw (sets-eq row buffer 0 (omega arith), zero-add)

-- a copy of a row over a buffer's start, with i of its elements copied
pub record Copying (row buffer words : List ℕ) (i : ℕ) : Type 0 where
  pub within : i ≤ length row
  pub room : length row ≤ length buffer
  pub is : words ≡ take i row ++ drop i buffer

module _ (row buffer : List ℕ) where
  pub copying_none : length row ≤ length buffer → Copying row buffer buffer 0
  copying_none h = record { within = omega arith; room = h; is = refl }

  module _ {words : List ℕ} {i : ℕ} (c : Copying row buffer words i) where
    pub copying_same : length words ≡ length buffer
    copying_same = rw c.is (rw (zero-add i) at (length-paste buffer 0 row i (omega arith) c.within))

    pub copying_more : i < length row → Copying row buffer (set words i (get_or row i 0)) (i + 1)
    copying_more h = record {
      within = omega arith;
      room = c.room;
      is = rw (c.is, add-one i) (rw (zero-add i, zero-add (suc i)) at (paste-suc buffer 0 row i 0 (omega arith) h));
    }

    pub copying_all : length row ≤ i → words ≡ over row buffer
    copying_all h = let n : i ≡ length row = omega arith in rw (c.is, n, take-length row)

-- an accepted count is within the list's limit, and the buffer has room for it
pub count_of : (room count : ℕ) → count_refusal room count ≡ 0 → (count ≤ list_limit) × (count ≤ room)
count_of room count e = go (ltb list_limit count) (ltb room count) refl refl e
  where
    go : (s t : Bool) → ltb list_limit count ≡ s → ltb room count ≡ t → first_of (cond s 1 0 ∷ cond t 11 0 ∷ []) ≡ 0 → (count ≤ list_limit) × (count ≤ room)
    go true t p q e = let z : ◌≡◌ {A = ℕ} 0 1 = cc in absurd (omega arith)
    go false true p q e = let z : ◌≡◌ {A = ℕ} 0 11 = cc in absurd (omega arith)
    go false false p q e = (ltb-false list_limit count p, ltb-false room count q)
