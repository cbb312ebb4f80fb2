-- Reading one word more: what the reader's pass makes of it.
use mathlib.Core.Path.{◌≡◌, refl, sym, ap, ◌∙◌}
use mathlib.Core.Bool.{Bool, true, false, cond}
use mathlib.Core.List.{List, [], ◌∷◌, ◌++◌, append_assoc, append-nil}
use Prim.Native.Nat.{ℕ, zero, suc, ◌+◌, ◌-◌, ◌≤◌, ◌<◌}
use native.Mathlib.Nat.{not-suc-le-zero}
use native.Mathlib.Numerals.{add-one}
use native.Mathlib.Omega.{arith}
use lib.Dec.{ltb}
use lib.ListN.{length, take, set, length-set}
use lib.Seq.{take-suc-set, take_all}
use borrow.Author.Tests.{ltb-false, lt-ltb, le-ltb}
use Rattle.std.specs.Prelude.{Result, IsErrAnd}
use Rattle.words.specs.declared.refusal.Refused.{Refused}
use Rattle.words.specs.Refusals.{number}
use Rattle.words.proofs.Refusals.{handed_on}
use Rattle.list_file.specs.Passes.{kept_by}
use Rattle.seven_bit.specs.SevenBits.{Parsed, accepted, refused}
use Rattle.list_file.specs.Reading.{and_then, word_at, words_at}
use Rattle.list_file.proofs.Inverse.{not_accepted, value_of, next_of, then_of}

-- a word in front of a reading of words
abbrev pub consed : ℕ → Parsed (List ℕ) → Parsed (List ℕ)
consed word rest = and_then rest (λ words end. accepted (word ∷ words) end)

module _ (bytes : List ℕ) (at : ℕ) where
  pub words_more : (n : ℕ) {word next : ℕ} → 0 < n → word_at bytes at ≡ accepted word next
      → words_at n bytes at ≡ consed word (words_at (n - 1) bytes next)
  words_more zero p e = absurd (not-suc-le-zero p)
  words_more (suc n) p e = let m : suc n - 1 ≡ n = omega arith in rw (e, m)

  pub words_stop : (n : ℕ) {refusal place : ℕ} → 0 < n → word_at bytes at ≡ refused refusal place → words_at n bytes at ≡ refused refusal place
  words_stop zero p e = absurd (not-suc-le-zero p)
  words_stop (suc n) p e = rw e

  pub end_left : at < length bytes → words_at 0 bytes at ≡ refused 10 at
  end_left h = rw (lt-ltb at (length bytes) h)

  pub end_exact : length bytes ≤ at → words_at 0 bytes at ≡ accepted [] (length bytes)
  end_exact h = rw (le-ltb at (length bytes) h)

-- a row of words in front of a reading of words
abbrev in_front : List ℕ → Parsed (List ℕ) → Parsed (List ℕ)
in_front row rest = and_then rest (λ words end. accepted (row ++ words) end)

-- a pass that `?` ended
pub stopped : (a : Result Unit Refused) (kept : List ℕ) (end : ℕ) (e : Refused) → IsErrAnd a (λ x. x ≡ e)
    → refused (number e.refusal) e.place ≡ kept_by a kept end
stopped a kept end e h = sym (ap (λ r. kept_by r kept end) (handed_on a e h))

-- the reader's pass over the places of a row, with i of them kept
pub record Keeping (bytes : List ℕ) (start : ℕ) (kept₀ kept : List ℕ) (at i : ℕ) : Type 0 where
  pub same : length kept ≡ length kept₀
  pub read : words_at (length kept₀) bytes start ≡ in_front (take i kept) (words_at (length kept₀ - i) bytes at)

module _ (bytes : List ℕ) (start : ℕ) (kept₀ : List ℕ) where
  pub keeping_none : Keeping bytes start kept₀ kept₀ start 0
  keeping_none =
      let z : length kept₀ - 0 ≡ length kept₀ = omega arith in
      record { same = refl; read = rw z (go (words_at (length kept₀) bytes start)) }
    where
      go : (p : Parsed (List ℕ)) → p ≡ in_front [] p
      go (accepted words end) = refl
      go (refused refusal place) = refl

  module _ {kept : List ℕ} {at i : ℕ} (s : Keeping bytes start kept₀ kept at i) where
    pub keeping_more : {word next : ℕ} → i < length kept₀ → word_at bytes at ≡ accepted word next
        → Keeping bytes start kept₀ (set kept i word) next (i + 1)
    keeping_more {word} {next} h e =
        let n = length kept₀ in
        let z : n - i - 1 ≡ n - (i + 1) = omega arith in
        let m = words_more bytes at (n - i) (omega arith) e in
        record {
          same = simp length-set s.same;
          read = s.read ∙ rw (m, z, add-one i, take-suc-set kept i word (omega (arith, s.same))) (go (words_at (n - suc i) bytes next));
        }
      where
        go : (p : Parsed (List ℕ)) → in_front (take i kept) (consed word p) ≡ in_front (take i kept ++ (word ∷ [])) p
        go (accepted words end) = rw (append_assoc (take i kept) (word ∷ []) words)
        go (refused refusal place) = refl

    pub keeping_stops : {refusal place : ℕ} → i < length kept₀ → word_at bytes at ≡ refused refusal place
        → words_at (length kept₀) bytes start ≡ refused refusal place
    keeping_stops h e = s.read ∙ rw (words_stop bytes at (length kept₀ - i) (omega arith) e)

    pub keeping_left : length kept₀ ≤ i → at < length bytes → words_at (length kept₀) bytes start ≡ refused 10 at
    keeping_left h l = let z : length kept₀ - i ≡ 0 = omega arith in s.read ∙ rw (z, end_left bytes at l)

    pub keeping_all : length kept₀ ≤ i → length bytes ≤ at → words_at (length kept₀) bytes start ≡ accepted kept (length bytes)
    keeping_all h l =
        let z : length kept₀ - i ≡ 0 = omega arith in
        s.read ∙ rw (z, end_exact bytes at l, append-nil (take i kept), take_all i kept (omega (arith, s.same)))

-- the end of an accepted file
pub record Ended (bytes : List ℕ) (at : ℕ) (words : List ℕ) (end : ℕ) : Type 0 where
  pub none : words ≡ []
  pub last : end ≡ length bytes
  pub past : length bytes ≤ at

pub ended : (bytes : List ℕ) (at : ℕ) {words : List ℕ} {end : ℕ} → words_at zero bytes at ≡ accepted words end → Ended bytes at words end
ended bytes at {words} {end} e = go (ltb at (length bytes)) refl e
  where
    go : (b : Bool) → ltb at (length bytes) ≡ b → cond b (refused 10 at) (accepted [] (length bytes)) ≡ accepted words end → Ended bytes at words end
    go true t q = not_accepted q
    go false t q = record { none = sym (value_of q); last = sym (next_of q); past = ltb-false at (length bytes) t }

-- one word more of an accepted file
pub record Longer (n : ℕ) (bytes : List ℕ) (at : ℕ) (words : List ℕ) (end : ℕ) : Type 0 where
  pub word : ℕ
  pub next : ℕ
  pub rest : List ℕ
  pub first : word_at bytes at ≡ accepted word next
  pub later : words_at n bytes next ≡ accepted rest end
  pub all : words ≡ word ∷ rest

pub longer : (n : ℕ) (bytes : List ℕ) (at : ℕ) {words : List ℕ} {end : ℕ} → words_at (suc n) bytes at ≡ accepted words end
    → Longer n bytes at words end
longer n bytes at e =
    let one = then_of (word_at bytes at) (λ word next. consed word (words_at n bytes next)) e in
    let two = then_of (words_at n bytes one.next) (λ rest end. accepted (one.first ∷ rest) end) one.rest in
    record {
      word = one.first;
      next = one.next;
      rest = two.first;
      first = one.is;
      later = two.is ∙ ap (accepted two.first) (next_of two.rest);
      all = sym (value_of two.rest);
    }

-- so many words were read as were asked for
pub as_many : (n : ℕ) (bytes : List ℕ) (at : ℕ) {words : List ℕ} {end : ℕ} → words_at n bytes at ≡ accepted words end → length words ≡ n
as_many zero bytes at e = ap length (ended bytes at e).none
as_many (suc n) bytes at e = let l = longer n bytes at e in ap length l.all ∙ ap suc (as_many n bytes l.next l.later)
