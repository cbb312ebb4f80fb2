-- What an accepted file holds at each of its places: the bytes of what was read there, and then the rest.
use mathlib.Core.Path.{◌≡◌, refl, sym, ap, ◌∙◌}
use mathlib.Core.List.{List, ◌++◌, append_assoc}
use Prim.Native.Nat.{ℕ, zero, suc, ◌+◌, ◌<◌}
use native.Mathlib.Omega.{arith}
use lib.ListN.{length, drop, drop_of_length-le}
use lib.Seq.{get_or-drop}
use Rattle.words.specs.Instructions.{word_of, form_of}
use Rattle.words.specs.Check.{operation_refusal, register_refusal, operand_refusal, no_areas}
use Rattle.words.proofs.Known.{known_register, known_operand}
use Rattle.words.proofs.Fields.{operation_of_word, r1_of-word, operand_of-word}
use Rattle.seven_bit.specs.SevenBits.{Groups, whole, broken, number_in, accepted, placed, number_at, bytes_of}
use Rattle.list_file.specs.Reading.{field_at, operand_at, r1_at, word_at, words_at, count_refusal, list_in}
use Rattle.list_file.specs.Writing.{word_bytes, words_bytes, file_of}
use Rattle.list_file.specs.RoundTrip.{Bytes}
use Rattle.list_file.proofs.Inverse.{not_accepted, value_of, next_of, field_of, then_of}
use Rattle.list_file.proofs.Backward.{Shortest, shortest}
use Rattle.list_file.proofs.Forward.{past}
use Rattle.list_file.proofs.Words.{ended, longer, as_many}

module _ (bytes : List ℕ) (all : Bytes bytes) where
  -- the file goes on at a place with a row, and at the next place with what follows it
  abbrev Was : (at : ℕ) (row : List ℕ) (next : ℕ) → Type 0
  Was at row next = drop at bytes ≡ row ++ drop next bytes

  number-was : (at : ℕ) {v next : ℕ} → number_at bytes at ≡ accepted v next → Was at (bytes_of v) next
  unfolding number_at
  number-was at {v} {next} e = go (number_in (drop at bytes)) refl e
    where
      go : (g : Groups) → number_in (drop at bytes) ≡ g → placed at g ≡ accepted v next → Was at (bytes_of v) next
      go (whole value size) q e =
          let s : Shortest (drop at bytes) value size = shortest (drop at bytes) (λ i. rw (get_or-drop at bytes i 0) (all (at + i))) q in
          let v-is : value ≡ v = value_of e in
          let n-is : at + length (bytes_of value) ≡ next = ap (λ (k : ℕ). at + k) (sym s.long) ∙ next_of e in
          let r : drop next bytes ≡ s.rest = rw n-is at (past bytes at (bytes_of value) s.rest s.split) in
          rw (r, ← v-is) s.split
      go (broken refusal) q e = not_accepted e

  field-was : (own : ℕ → ℕ) (at : ℕ) {v next : ℕ} → field_at own bytes at ≡ accepted v next → Was at (bytes_of v) next
  field-was own at e = number-was at (field_of own bytes at e).number

  joined-was : (at : ℕ) (row : List ℕ) (next : ℕ) (later : List ℕ) (end : ℕ) → Was at row next → Was next later end → Was at (row ++ later) end
  joined-was at row next later end p q = p ∙ ap (λ (r : List ℕ). row ++ r) q ∙ sym (append_assoc row later (drop end bytes))

  word-was : (at : ℕ) {word next : ℕ} → word_at bytes at ≡ accepted word next → Was at (word_bytes word) next
  unfolding word_at r1_at operand_at word_bytes
  word-was at {word} {next} e =
      let one = then_of (field_at operation_refusal bytes at) (λ operation at₁. r1_at operation bytes at₁) e in
      let o = one.first in
      let two = then_of (field_at register_refusal bytes one.next) (λ r1 at₂. operand_at o r1 bytes at₂) one.rest in
      let r = two.first in
      let three =
      then_of (field_at (operand_refusal no_areas (form_of o)) bytes two.next) (λ operand end. accepted (word_of o r operand) end) two.rest in
      let x = three.first in
      let known = (field_of operation_refusal bytes at one.is).passes in
      let narrow : r < 16 = omega (arith, known_register r (field_of register_refusal bytes one.next two.is).passes) in
      let short : x < 4096 =
      omega (arith, known_operand no_areas o x known (field_of (operand_refusal no_areas (form_of o)) bytes two.next three.is).passes) in
      let whole_word : word_of o r x ≡ word = value_of three.rest in
      let last : Was two.next (bytes_of x) next = rw (next_of three.rest) at (field-was (operand_refusal no_areas (form_of o)) two.next three.is) in
      rw (← whole_word, operation_of_word o r x narrow short, r1_of-word o r x narrow short, operand_of-word o r x narrow short)
      (joined-was at (bytes_of o) one.next (bytes_of r ++ bytes_of x) next (field-was operation_refusal at one.is)
      (joined-was one.next (bytes_of r) two.next (bytes_of x) next (field-was register_refusal one.next two.is) last))

  words-was : (n at : ℕ) {words : List ℕ} {end : ℕ} → words_at n bytes at ≡ accepted words end → drop at bytes ≡ words_bytes words
  words-was zero at e = let d = ended bytes at e in drop_of_length-le bytes d.past ∙ ap words_bytes (sym d.none)
  words-was (suc n) at e =
      let l = longer n bytes at e in
      word-was at l.first ∙ ap (λ (r : List ℕ). word_bytes l.word ++ r) (words-was n l.next l.later) ∙ ap words_bytes (sym l.all)

  -- an accepted file is the file of the list that was read
  pub file_was : (room : ℕ) {words : List ℕ} {end : ℕ} → list_in room bytes ≡ accepted words end → file_of words ≡ bytes
  unfolding list_in
  file_was room {words} e =
      let one = then_of (field_at (count_refusal room) bytes 0) (λ count at. words_at count bytes at) e in
      let n : length words ≡ one.first = as_many one.first bytes one.next one.rest in
      sym (field-was (count_refusal room) 0 one.is ∙ rw (n, words-was one.first one.next one.rest))
