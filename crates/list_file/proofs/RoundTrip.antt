-- Demand 2's two round trips (their statements: specs/RoundTrip.antt).
use mathlib.Core.Path.{◌≡◌, refl, sym, ap, ◌∙◌}
use mathlib.Core.Bool.{Bool, true, false}
use mathlib.Core.List.{List}
use Prim.Native.Nat.{ℕ, ◌+◌, ◌≤◌, ◌<◌}
use native.Mathlib.Omega.{arith}
use lib.Dec.{ltb, eqb}
use lib.ListN.{length, take, drop}
use lib.Seq.{take-append_seam}
use borrow.Author.Tests.{ltb-true, ltb-false, lt-ltb, le-ltb, eqb-true, eqb-false}
use Rattle.words.specs.Instructions.{list_limit}
use Rattle.words.specs.Check.{list_check, list_check_alone, no_areas}
use Rattle.seven_bit.specs.SevenBits.{Parsed, accepted, refused, bytes_of}
use Rattle.list_file.specs.Reading.{field_at, count_refusal, list_in, answered, read_answer, read_words}
use Rattle.list_file.specs.Writing.{words_bytes, file_of, write_answer, write_bytes}
use Rattle.list_file.specs.RoundTrip.{ReadThenWrite, WriteThenRead}
use Rattle.list_file.proofs.Forward.{number-goes, field_goes, words_go, past}
use Rattle.list_file.proofs.Inverse.{not_accepted, value_of}
use Rattle.list_file.proofs.Refusals.{Real, list_real}
use Rattle.list_file.proofs.Was.{file_was}
use Rattle.list_file.proofs.Wrote.{within_limit}

-- AN ACCEPTED READ: the list that was read, and what the answer and the buffer say of it

pub record IsRead (file words : List ℕ) : Type 0 where
  pub list : List ℕ
  pub end : ℕ
  pub is : list_in (length words) file ≡ accepted list end
  pub back : take (read_answer file words).count (read_words file words) ≡ list

pub is_read : (file words : List ℕ) → (read_answer file words).refusal ≡ 0 → IsRead file words
is_read file words e = go (list_in (length words) file) refl (list_real (length words) file) e
  where
    go : (p : Parsed (List ℕ)) → list_in (length words) file ≡ p → Real p → (answered p).refusal ≡ 0 → IsRead file words
    go (accepted list end) q h e = record {
      list = list;
      end = end;
      is = q;
      back = rw q (take-append_seam list (drop (length list) words));
    }
    go (refused refusal place) q h e = absurd (h e)

-- AN ACCEPTED WRITE: the list passes, and the bytes begin with its file

pub record IsWritten (list bytes : List ℕ) : Type 0 where
  pub passes : (list_check_alone list).refusal ≡ 0
  pub back : take (write_answer list bytes).length (write_bytes list bytes) ≡ file_of list

pub is-written : (list bytes : List ℕ) → (write_answer list bytes).refusal ≡ 0 → IsWritten list bytes
is-written list bytes e = go (eqb (list_check_alone list).refusal 0) (ltb (length bytes) (length (file_of list))) refl refl
  where
    go : (s t : Bool) → eqb (list_check_alone list).refusal 0 ≡ s → ltb (length bytes) (length (file_of list)) ≡ t → IsWritten list bytes
    go true false q r = record {
      passes = eqb-true (list_check_alone list).refusal 0 q;
      back = rw (q, r) (take-append_seam (file_of list) (drop (length (file_of list)) bytes));
    }
    go true true q r = let z : ◌≡◌ {A = ℕ} 11 0 = rw (q, r) at e in absurd (omega arith)
    go false t q r = absurd (eqb-false (list_check_alone list).refusal 0 q (rw q at e))

-- a file of a list that passes is read back as that list, where the word buffer has room for it
pub file_read : (list : List ℕ) (room : ℕ) → (list_check_alone list).refusal ≡ 0 → length list ≤ room
    → list_in room (file_of list) ≡ accepted list (length (file_of list))
unfolding list_in list_check
file_read list room ok enough =
    let short = within_limit no_areas list ok in
    let counts : count_refusal room (length list) ≡ 0 = rw (le-ltb list_limit (length list) short, le-ltb room (length list) enough) in
    rw (field_goes (file_of list) (count_refusal room) 0 (length list) (words_bytes list) counts (omega arith) refl)
    (words_go (file_of list) (0 + length (bytes_of (length list))) 0 list (rw (le-ltb list_limit (length list) short) at ok)
    (past (file_of list) 0 (bytes_of (length list)) (words_bytes list) refl))

-- a word buffer without room for it is refused with 11
pub file_short : (list : List ℕ) (room : ℕ) → (list_check_alone list).refusal ≡ 0 → room < length list → list_in room (file_of list) ≡ refused 11 0
unfolding list_in field_at
file_short list room ok less =
    let short = within_limit no_areas list ok in
    rw (number-goes (file_of list) 0 (length list) (words_bytes list) (omega arith) refl, le-ltb list_limit (length list) short, lt-ltb room (length list) less)

-- THE TWO THEOREMS

pub read_then_write : ReadThenWrite
read_then_write file words bytes all e w =
    let r = is_read file words e in
    let same : take (read_answer file words).count (read_words file words) ≡ r.list = r.back in
    (is-written _ bytes w).back ∙ ap file_of same ∙ file_was file all (length words) r.is

pub write_then_read : WriteThenRead
write_then_read list bytes words e r =
    let w = is-written list bytes e in
    let i = is_read (take (write_answer list bytes).length (write_bytes list bytes)) words r in
    i.back ∙ same w.passes (ap (list_in (length words)) (sym w.back) ∙ i.is)
  where
    same : {found : List ℕ} {end : ℕ} → (list_check_alone list).refusal ≡ 0 → list_in (length words) (file_of list) ≡ accepted found end → found ≡ list
    same {found} {end} ok q = go (ltb (length words) (length list)) refl
      where
        go : (b : Bool) → ltb (length words) (length list) ≡ b → found ≡ list
        go true p = not_accepted (sym (file_short list (length words) ok (ltb-true (length words) (length list) p)) ∙ q)
        go false p = value_of (sym q ∙ file_read list (length words) ok (ltb-false (length words) (length list) p))
