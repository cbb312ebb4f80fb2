-- Rows of bytes stored one after another, and the bytes of a list word by word.
use mathlib.Core.Path.{◌≡◌, refl, sym, ap, ◌∙◌}
use mathlib.Core.List.{List, [], ◌∷◌, ◌++◌}
use Prim.Native.Nat.{ℕ, suc, ◌+◌, ◌≤◌, ◌<◌}
use native.Mathlib.Nat.{add-zero}
use native.Mathlib.Omega.{arith}
use lib.ListN.{length, get_or, set, drop, length-append, drop_of_length-le}
use lib.Seq.{sets, length-sets}
use Rattle.words.specs.Instructions.{operation_field, r1_field, operand_field}
use Rattle.seven_bit.specs.SevenBits.{bytes_of}
use Rattle.list_file.specs.Writing.{word_bytes, words_bytes}
use Rattle.seven_bit.proofs.Peel.{peel_one}
use Rattle.seven_bit.proofs.Shortest.{few_bytes}

pub sets_append : {A : Type 0} (l : List A) (i : ℕ) (xs ys : List A) → sets l i (xs ++ ys) ≡ sets (sets l i xs) (i + length xs) ys
sets_append l i [] ys = rw (add-zero i)
sets_append l i (x ∷ xs) ys = let e : suc i + length xs ≡ i + suc (length xs) = omega arith in sets_append (set l i x) (suc i) xs ys ∙ rw e

-- how many bytes a number has
abbrev pub size : ℕ → ℕ
size value = length (bytes_of value)

pub word_size : (word : ℕ) → length (word_bytes word) ≡ size (operation_field word) + (size (r1_field word) + size (operand_field word))
unfolding word_bytes
word_size word = simp length-append

-- a word has at most nine bytes
pub nine_bytes : (word : ℕ) → length (word_bytes word) ≤ 9
nine_bytes word =
    omega (arith, word_size word, few_bytes (operation_field word), few_bytes (r1_field word), few_bytes (operand_field word))

-- a word is stored number by number
pub sets_word : (l : List ℕ) (at word : ℕ)
    → let o = operation_field word in
    let r = r1_field word in
    sets (sets (sets l at (bytes_of o)) (at + size o) (bytes_of r)) (at + size o + size r) (bytes_of (operand_field word)) ≡ sets l at (word_bytes word)
unfolding word_bytes
sets_word l at word =
    sym
    (sets_append l at (bytes_of (operation_field word)) (bytes_of (r1_field word) ++ bytes_of (operand_field word))
    ∙ sets_append (sets l at (bytes_of (operation_field word))) (at + size (operation_field word)) (bytes_of (r1_field word)) (bytes_of (operand_field word)))

-- the bytes from a word of the list on
pub words-next : (list : List ℕ) (place : ℕ) → place < length list
    → words_bytes (drop place list) ≡ word_bytes (get_or list place 0) ++ words_bytes (drop (place + 1) list)
words-next list place h = rw (peel_one list place h)

-- the second pass of the writer, with so many words stored
pub record Putting (list bytes₀ : List ℕ) (start : ℕ) (bytes : List ℕ) (at place : ℕ) : Type 0 where
  pub within : place ≤ length list
  pub same : length bytes ≡ length bytes₀
  pub room : at + length (words_bytes (drop place list)) ≤ length bytes
  pub laid : sets bytes₀ start (words_bytes list) ≡ sets bytes at (words_bytes (drop place list))

module _ (list bytes₀ : List ℕ) (start : ℕ) where
  pub putting_none : start + length (words_bytes list) ≤ length bytes₀ → Putting list bytes₀ start bytes₀ start 0
  putting_none h = record { within = omega arith; same = refl; room = h; laid = refl }

  module _ {bytes : List ℕ} {at place : ℕ} (s : Putting list bytes₀ start bytes at place) where
    abbrev here : List ℕ
    here = word_bytes (get_or list place 0)

    -- there is room for the next word
    pub putting_room : place < length list → at + length here ≤ length bytes
    putting_room h = omega (arith, s.room, ap length (words-next list place h), length-append here (words_bytes (drop (place + 1) list)))

    pub putting_more : place < length list → {bytes' : List ℕ} {at' : ℕ} → at' ≡ at + length here → bytes' ≡ sets bytes at here
        → Putting list bytes₀ start bytes' at' (place + 1)
    putting_more h {bytes'} {at'} e b =
        let n : length bytes' ≡ length bytes = ap length b ∙ length-sets bytes at here in
        record {
          within = omega arith;
          same = n ∙ s.same;
          room = omega (arith, s.room, ap length (words-next list place h), length-append here (words_bytes (drop (place + 1) list)));
          laid = s.laid ∙ rw (words-next list place h, e, b) (sets_append bytes at here (words_bytes (drop (place + 1) list)));
        }

    pub putting_all : length list ≤ place → bytes ≡ sets bytes₀ start (words_bytes list)
    putting_all h = sym (s.laid ∙ rw (drop_of_length-le list h))
