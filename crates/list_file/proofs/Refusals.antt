-- A refusal of the reader is never 0: an answer 0 means accepted.
use mathlib.Core.Path.{◌≡◌, refl}
use mathlib.Core.Bool.{Bool, true, false, cond}
use mathlib.Core.List.{List, [], ◌∷◌}
use Prim.Native.Nat.{ℕ, zero, suc}
use native.Mathlib.Omega.{arith}
use lib.Dec.{ltb, eqb}
use lib.ListN.{length, drop}
use borrow.Author.Tests.{eqb-false}
use Rattle.words.specs.Check.{operation_refusal, register_refusal, operand_refusal, no_areas}
use Rattle.words.specs.Instructions.{form_of}
use Rattle.seven_bit.specs.SevenBits.{Groups, whole, broken, follows, joined, last_group, later_groups, groups, limited, number_in, Parsed, accepted, refused, placed, number_at}
use Rattle.list_file.specs.Reading.{and_then, owned, field_at, operand_at, r1_at, word_at, words_at, count_refusal, list_in}

abbrev pub Real : {A : Type 0} → Parsed A → Type 0
Real (accepted value next) = Unit
Real (refused refusal place) = refusal ≡ 0 → ⊥

-- NUMBERS

abbrev Broken : Groups → Type 0
Broken (whole value size) = Unit
Broken (broken refusal) = refusal ≡ 0 → ⊥

either : (b : Bool) (x y : Groups) → Broken x → Broken y → Broken (cond b x y)
either true x y p q = p
either false x y p q = q

nine : Broken (broken 9)
nine e = omega arith

last_broken : (byte : ℕ) → Broken (last_group byte)
last_broken byte = either (eqb byte 0) (broken 9) (whole byte 1) nine tt

joined_broken : (byte : ℕ) (g : Groups) → Broken g → Broken (joined byte g)
joined_broken byte (whole value size) h = tt
joined_broken byte (broken refusal) h = h

later_broken : (more : ℕ) (bytes : List ℕ) → Broken (later_groups more bytes)
later_broken more [] = λ e. omega arith
later_broken zero (byte ∷ bytes) = either (follows byte) (broken 9) (last_group byte) nine (last_broken byte)
later_broken (suc more) (byte ∷ bytes) =
    either (follows byte) (joined byte (later_groups more bytes)) (last_group byte)
    (joined_broken byte (later_groups more bytes) (later_broken more bytes)) (last_broken byte)

groups_broken : (bytes : List ℕ) → Broken (groups bytes)
groups_broken [] = λ e. omega arith
groups_broken (byte ∷ bytes) = either (follows byte) (joined byte (later_groups 1 bytes)) (whole byte 1)
    (joined_broken byte (later_groups 1 bytes) (later_broken 1 bytes)) tt

limited_broken : (g : Groups) → Broken g → Broken (limited g)
limited_broken (whole value size) h = either (ltb 65535 value) (broken 9) (whole value size) nine tt
limited_broken (broken refusal) h = h

pub number_real : (bytes : List ℕ) (at : ℕ) → Real (number_at bytes at)
unfolding number_at number_in
number_real bytes at = go (limited (groups (drop at bytes))) (limited_broken (groups (drop at bytes)) (groups_broken (drop at bytes)))
  where
    go : (g : Groups) → Broken g → Real (placed at g)
    go (whole value size) h = tt
    go (broken refusal) h = h

-- FIELDS, WORDS, FILES

field_real : (own : ℕ → ℕ) (bytes : List ℕ) (at : ℕ) → Real (field_at own bytes at)
unfolding field_at
field_real own bytes at = go (number_at bytes at) (number_real bytes at)
  where
    tested : (value next : ℕ) (b : Bool) → eqb (own value) 0 ≡ b → Real (cond b (accepted value next) (refused (own value) at))
    tested value next true e = tt
    tested value next false e = eqb-false (own value) 0 e

    go : (p : Parsed ℕ) → Real p → Real (owned own at p)
    go (accepted value next) h = tested value next (eqb (own value) 0) refl
    go (refused refusal place) h = h

then_real : {A B : Type 0} (part : Parsed A) (later : A → ℕ → Parsed B) → Real part → ((value : A) (next : ℕ) → Real (later value next))
    → Real (and_then part later)
then_real (accepted value next) later h k = k value next
then_real (refused refusal place) later h k = h

word_real : (bytes : List ℕ) (at : ℕ) → Real (word_at bytes at)
unfolding word_at r1_at operand_at
word_real bytes at =
    then_real (field_at operation_refusal bytes at) (λ o n. r1_at o bytes n) (field_real operation_refusal bytes at)
    (λ o n. then_real (field_at register_refusal bytes n) (λ r m. operand_at o r bytes m) (field_real register_refusal bytes n)
    (λ r m. then_real (field_at (operand_refusal no_areas (form_of o)) bytes m) (λ x e. accepted _ e)
    (field_real (operand_refusal no_areas (form_of o)) bytes m) (λ x e. tt)))

words_real : (n : ℕ) (bytes : List ℕ) (at : ℕ) → Real (words_at n bytes at)
words_real zero bytes at = go (ltb at (length bytes))
  where
    go : (b : Bool) → Real {A = List ℕ} (cond b (refused 10 at) (accepted [] (length bytes)))
    go true = λ e. omega arith
    go false = tt
words_real (suc n) bytes at =
    then_real (word_at bytes at) (λ w next. and_then (words_at n bytes next) (λ ws end. accepted (w ∷ ws) end)) (word_real bytes at)
    (λ w next. then_real (words_at n bytes next) (λ ws end. accepted (w ∷ ws) end) (words_real n bytes next) (λ ws end. tt))

pub list_real : (room : ℕ) (bytes : List ℕ) → Real (list_in room bytes)
unfolding list_in
list_real room bytes =
    then_real (field_at (count_refusal room) bytes 0) (λ count at. words_at count bytes at) (field_real (count_refusal room) bytes 0)
    (λ count at. words_real count bytes at)
