-- The answer to a file, and the cells after it.
use mathlib.Core.Path.{◌≡◌, refl, sym, ap, ◌∙◌}
use mathlib.Core.Bool.{Bool, true, false, cond}
use mathlib.Core.List.{List, ◌++◌}
use Prim.Native.Nat.{ℕ, ◌*◌, ◌/◌, ◌≤◌, ◌<◌}
use native.Mathlib.Omega.{arith}
use lib.Dec.{ltb}
use lib.Ieee.{Float}
use lib.ListN.{length, drop}
use borrow.Author.Tests.{lt-ltb, le-ltb, ltb-false, eq-eqb, ne_eqb}
use Rattle.words.specs.Check.{Verdict}
use Rattle.operands_file.specs.Operands.{operands_in, operands_limit}
use Rattle.operands_file.specs.Reading.{OperandsRead, operands_verdict, answered_of, stored_of, read_answer, read_cells}
use Rattle.operands_file.proofs.Joining.{length-numbers}

-- THE VERDICT
module _ (size : ℕ) where
  pub too_many : operands_limit < size → record { refusal = 4; place = operands_limit } ≡ operands_verdict size
  too_many h = rw (lt-ltb operands_limit size h)

  module _ (few : size ≤ operands_limit) where
    pub cut : size / 8 * 8 < size → record { refusal = 8; place = size / 8 * 8 } ≡ operands_verdict size
    cut h = rw (le-ltb operands_limit size few, lt-ltb (size / 8 * 8) size h)

    pub whole : size ≤ size / 8 * 8 → record { refusal = 0; place = size } ≡ operands_verdict size
    whole h = rw (le-ltb operands_limit size few, le-ltb (size / 8 * 8) size h)

  -- an accepted file has at most 2,048 bytes, in whole patterns
  pub good_size : (operands_verdict size).refusal ≡ 0 → (size ≤ operands_limit) × (size ≤ size / 8 * 8)
  good_size e = go (ltb operands_limit size) (ltb (size / 8 * 8) size) refl refl e
    where
      go : (s t : Bool) → ltb operands_limit size ≡ s → ltb (size / 8 * 8) size ≡ t
          → (cond {A = Verdict} s (record { refusal = 4; place = operands_limit }) (cond {A = Verdict} t (record { refusal = 8; place = size / 8 * 8 }) (record { refusal = 0; place = size }))).refusal ≡ 0
          → (size ≤ operands_limit) × (size ≤ size / 8 * 8)
      go true t p q e = absurd (omega arith)
      go false true p q e = absurd (omega arith)
      go false false p q e = (ltb-false operands_limit size p, ltb-false (size / 8 * 8) size q)

pub how_many : (bytes : List ℕ) → length (operands_in bytes) ≡ length bytes / 8
how_many bytes = length-numbers (length bytes / 8) bytes 0

-- THE ANSWER, by the verdict
module _ (room count : ℕ) (v : Verdict) where
  pub answered-refused : (v.refusal ≡ 0 → ⊥) → answered_of room count v ≡ record { refusal = v.refusal; place = v.place; count = 0 }
  answered-refused f = rw (ne_eqb v.refusal 0 f)

  module _ (e : v.refusal ≡ 0) where
    answered-no-room : room < count → answered_of room count v ≡ record { refusal = 11; place = 0; count = 0 }
    answered-no-room h = rw (eq-eqb v.refusal 0 e, lt-ltb room count h)

    pub answered-room : count ≤ room → answered_of room count v ≡ record { refusal = 0; place = v.place; count = count }
    answered-room h = rw (eq-eqb v.refusal 0 e, le-ltb room count h)

-- what is stored by an answer that accepts
pub stored_good : (answer : OperandsRead) (numbers cells : List Float) → answer.refusal ≡ 0 → stored_of answer numbers cells ≡ numbers ++ drop (length numbers) cells
stored_good answer numbers cells e = rw (eq-eqb answer.refusal 0 e)

-- THE READER
module _ (bytes : List ℕ) (cells : List Float) {v : Verdict} (is : v ≡ operands_verdict (length bytes)) where
  abbrev room : ℕ
  room = length cells

  abbrev count : ℕ
  count = length (operands_in bytes)

  abbrev Read : OperandsRead → List Float → Type 0
  Read answer after = (answer ≡ read_answer bytes cells) × (after ≡ read_cells bytes cells)

  -- an answer by the verdict, and the cells by the answer
  read_as : (answer : OperandsRead) {after : List Float} → answered_of room count v ≡ answer
      → after ≡ stored_of answer (operands_in bytes) cells → Read answer after
  read_as answer a c =
      let e : answer ≡ read_answer bytes cells = sym a ∙ ap (answered_of room count) is in
      (e, c ∙ ap (λ (r : OperandsRead). stored_of r (operands_in bytes) cells) e)

  pub read_refused : (v.refusal ≡ 0 → ⊥) → Read (record { refusal = v.refusal; place = v.place; count = 0 }) cells
  read_refused f = read_as (record { refusal = v.refusal; place = v.place; count = 0 }) (answered-refused room count v f) (rw (ne_eqb v.refusal 0 f))

  module _ (good : v.refusal ≡ 0) where
    pub read_no_room : length cells < length bytes / 8 → Read (record { refusal = 11; place = 0; count = 0 }) cells
    read_no_room h =
        read_as (record { refusal = 11; place = 0; count = 0 }) (answered-no-room room count v good (omega (arith, how_many bytes))) refl

    module _ (enough : length bytes / 8 ≤ length cells) where
      pub read_stored : {after : List Float} → after ≡ operands_in bytes ++ drop (length bytes / 8) cells
          → Read (record { refusal = 0; place = v.place; count = length bytes / 8 }) after
      read_stored {after} e =
          let n = how_many bytes in
          let fits : length (operands_in bytes) ≤ length cells = omega arith in
          let r = read_as (record { refusal = 0; place = v.place; count = length (operands_in bytes) }) (answered-room room count v good fits) (e ∙ rw n) in
          (ap (λ k. record { refusal = 0; place = v.place; count = k }) (sym n) ∙ r.0, r.1)
