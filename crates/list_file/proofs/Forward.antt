-- Reading what was written: where a file goes on with a number's, a word's or a list's bytes, reading gives it back.
use mathlib.Core.Path.{◌≡◌, refl, sym, ap, ◌∙◌}
use mathlib.Core.Bool.{Bool, true, false}
use mathlib.Core.List.{List, [], ◌∷◌, ◌++◌, append_assoc}
use Prim.Native.Nat.{ℕ, suc, ◌+◌, ◌*◌, ◌/◌, ◌%◌, ◌≤◌}
use native.Mathlib.Omega.{arith}
use lib.Dec.{ltb}
use lib.ListN.{length, drop, length-drop}
use lib.Seq.{drop-append_seam, drop-drop}
use borrow.Author.Tests.{ltb-true, ltb-false, eq-eqb, le-ltb}
use Rattle.words.specs.Instructions.{operation_field, r1_field, operand_field, form_of}
use Rattle.words.specs.Check.{operation_refusal, register_refusal, operand_refusal, first_bad, word_refusal, no_areas}
use Rattle.words.proofs.Known.{known_operation, known_register, known_operand}
use Rattle.words.proofs.Fields.{word_of_fields}
use Rattle.words.proofs.Passes.{word_passes, list_passes}
use Rattle.seven_bit.specs.SevenBits.{whole, number_in, accepted, number_at, bytes_of}
use Rattle.list_file.specs.Reading.{field_at, operand_at, r1_at, word_at, words_at}
use Rattle.list_file.specs.Writing.{word_bytes, words_bytes}
use Rattle.seven_bit.proofs.Groups.{one_byte, two_bytes, three_bytes}
use Rattle.list_file.proofs.Laid.{word_size}
use Rattle.seven_bit.proofs.Shortest.{bytes_one, bytes_two, bytes_three}

-- a number's bytes, whatever follows them
pub number_back : (v : ℕ) (rest : List ℕ) → v ≤ 65535 → number_in (bytes_of v ++ rest) ≡ whole v (length (bytes_of v))
number_back v rest h = go (ltb v 128) (ltb (v / 128) 128) refl refl
  where
    go : (a b : Bool) → ltb v 128 ≡ a → ltb (v / 128) 128 ≡ b → number_in (bytes_of v ++ rest) ≡ whole v (length (bytes_of v))
    go true b p q = rw (bytes_one v (ltb-true v 128 p)) (one_byte v rest (ltb-true v 128 p))
    go false true p q =
        let l = ltb-false v 128 p in
        let s = ltb-true (v / 128) 128 q in
        let e : (128 + v % 128) % 128 + v / 128 * 128 ≡ v = omega arith in
        rw (bytes_two v l s) (two_bytes (128 + v % 128) rest (omega arith) (v / 128) (omega arith) s ∙ ap (λ (n : ℕ). whole n 2) e)
    go false false p q =
        let l = ltb-false v 128 p in
        let s = ltb-false (v / 128) 128 q in
        let e : (128 + v % 128) % 128 + ((128 + v / 128 % 128) % 128 + v / 128 / 128 * 128) * 128 ≡ v = omega arith in
        rw (bytes_three v l s)
        (three_bytes (128 + v % 128) rest (omega arith) (128 + v / 128 % 128) (omega arith) (v / 128 / 128) (omega arith) (omega arith)
        ∙ ap (λ (n : ℕ). whole n 3) e)

module _ (bytes : List ℕ) where
  -- the file goes on at a place with a row, and then with the rest
  abbrev pub Goes : (at : ℕ) (row rest : List ℕ) → Type 0
  Goes at row rest = drop at bytes ≡ row ++ rest

  -- after the row it goes on with the rest
  pub past : (at : ℕ) (row rest : List ℕ) → Goes at row rest → drop (at + length row) bytes ≡ rest
  past at row rest g = sym (drop-drop (length row) at bytes) ∙ ap (drop (length row)) g ∙ drop-append_seam row rest

  pub number-goes : (at v : ℕ) (rest : List ℕ) → v ≤ 65535 → Goes at (bytes_of v) rest → number_at bytes at ≡ accepted v (at + length (bytes_of v))
  unfolding number_at
  number-goes at v rest h g = rw (g, number_back v rest h)

  pub field_goes : (own : ℕ → ℕ) (at v : ℕ) (rest : List ℕ) → own v ≡ 0 → v ≤ 65535 → Goes at (bytes_of v) rest
      → field_at own bytes at ≡ accepted v (at + length (bytes_of v))
  unfolding field_at
  field_goes own at v rest ok h g = rw (number-goes at v rest h g, eq-eqb (own v) 0 ok)

  pub word-goes : (at w : ℕ) (rest : List ℕ) → word_refusal no_areas w ≡ 0 → Goes at (word_bytes w) rest
      → word_at bytes at ≡ accepted w (at + length (word_bytes w))
  unfolding word_at r1_at operand_at word_bytes
  word-goes at w rest ok g =
      let p = word_passes no_areas w ok in
      let o = operation_field w in
      let r = r1_field w in
      let x = operand_field w in
      let g₁ : Goes at (bytes_of o) (bytes_of r ++ (bytes_of x ++ rest)) = g ∙ rw (append_assoc, append_assoc) in
      let g₂ : Goes (at + length (bytes_of o)) (bytes_of r) (bytes_of x ++ rest) = past at (bytes_of o) (bytes_of r ++ (bytes_of x ++ rest)) g₁ in
      let g₃ : Goes (at + length (bytes_of o) + length (bytes_of r)) (bytes_of x) rest = past (at + length (bytes_of o)) (bytes_of r) (bytes_of x ++ rest) g₂ in
      rw (
        field_goes operation_refusal at o _ p.operation (omega (arith, known_operation o p.operation)) g₁,
        field_goes register_refusal _ r _ p.r1 (omega (arith, known_register r p.r1)) g₂,
        field_goes (operand_refusal no_areas (form_of o)) _ x rest p.operand (omega (arith, known_operand no_areas o x p.operation p.operand)) g₃,
        word_of_fields w,
      ) (ap (accepted w) (omega (arith, word_size w)))

  pub words_go : (at k : ℕ) (ws : List ℕ) → (first_bad no_areas k ws).refusal ≡ 0 → drop at bytes ≡ words_bytes ws
      → words_at (length ws) bytes at ≡ accepted ws (length bytes)
  words_go at k [] ok g = rw (le-ltb at (length bytes) (omega (arith, length-drop at bytes, ap length g)))
  words_go at k (w ∷ ws) ok g =
      let p = list_passes no_areas k w ws ok in
      rw (
        word-goes at w (words_bytes ws) p.0 g,
        words_go (at + length (word_bytes w)) (suc k) ws p.1 (past at (word_bytes w) (words_bytes ws) g),
      )
