-- Writing what was read: the bytes of an accepted file are those of its count and its words, in shortest form.
use mathlib.Core.Path.{◌≡◌, refl, sym, ap, ◌∙◌}
use mathlib.Core.Bool.{Bool, true, false}
use mathlib.Core.List.{List, [], ◌∷◌, ◌++◌}
use Prim.Native.Nat.{ℕ, ◌+◌, ◌*◌, ◌/◌, ◌%◌, ◌≤◌, ◌<◌}
use native.Mathlib.Omega.{arith}
use lib.Dec.{ltb, eqb}
use lib.ListN.{length}
use borrow.Author.Tests.{ltb-true, ltb-false, eqb-true, eqb-false}
use Rattle.seven_bit.specs.SevenBits.{whole, broken, number_in, bytes_of}
use Rattle.list_file.specs.RoundTrip.{Bytes}
use Rattle.seven_bit.proofs.Groups.{one_byte, cut-after_one, zero_second, two_bytes, cut-after-two, zero_third, three_bytes, large_third}
use Rattle.seven_bit.proofs.Shortest.{bytes_one, bytes_two, bytes_three}

-- bytes that give a number are that number's, and then the rest
pub record Shortest (bytes : List ℕ) (value size : ℕ) : Type 0 where
  pub rest : List ℕ
  pub split : bytes ≡ bytes_of value ++ rest
  pub long : size ≡ length (bytes_of value)
  pub small : value ≤ 65535

value-is : {v w n m : ℕ} → whole v n ≡ whole w m → v ≡ w
value-is e = cc

size_is : {v w n m : ℕ} → whole v n ≡ whole w m → n ≡ m
size_is e = cc

not_whole {ℓ} : {X : Type ℓ} {v n r : ℕ} → broken r ≡ whole v n → X
not_whole e = let z : ◌≡◌ {A = ℕ} 0 1 = cc in absurd (omega arith)

-- what the bytes give is known, and so is which number has them
made : (row rest : List ℕ) {v n value size : ℕ} → number_in (row ++ rest) ≡ whole v n → number_in (row ++ rest) ≡ whole value size
    → bytes_of v ≡ row → n ≡ length row → v ≤ 65535 → Shortest (row ++ rest) value size
made row rest {v} {n} {value} {size} is e shape long small =
    let q : whole v n ≡ whole value size = sym is ∙ e in
    let b : bytes_of value ≡ row = ap bytes_of (sym (value-is q)) ∙ shape in
    record {
      rest = rest;
      split = ap (λ (r : List ℕ). r ++ rest) (sym b);
      long = sym (size_is q) ∙ long ∙ ap length (sym b);
      small = omega (arith, value-is q);
    }

module _ (a : ℕ) (byte : a < 256) (value size : ℕ) where
  abbrev Gives : List ℕ → Type 0
  Gives later = number_in (a ∷ later) ≡ whole value size

  one : (rest : List ℕ) → a < 128 → Gives rest → Shortest (a ∷ rest) value size
  one rest h e = made (a ∷ []) rest (one_byte a rest h) e (bytes_one a h) refl (omega arith)

  module _ (first : 128 ≤ a) (b : ℕ) (second-byte : b < 256) where
    two : (rest : List ℕ) → (b ≡ 0 → ⊥) → b < 128 → Gives (b ∷ rest) → Shortest (a ∷ b ∷ rest) value size
    two rest n h e =
        let v = a % 128 + b * 128 in
        let low : 128 + v % 128 ≡ a = omega arith in
        let high : v / 128 ≡ b = omega arith in
        made (a ∷ b ∷ []) rest (two_bytes a rest first b (omega (arith, n)) h) e
        (bytes_two v (omega (arith, n)) (omega arith) ∙ rw (low, high)) refl (omega arith)

    three : (again : 128 ≤ b) (c : ℕ) (rest : List ℕ) → (c ≡ 0 → ⊥) → c ≤ 3 → Gives (b ∷ c ∷ rest) → Shortest (a ∷ b ∷ c ∷ rest) value size
    three again c rest n h e =
        let v = a % 128 + (b % 128 + c * 128) * 128 in
        let low : 128 + v % 128 ≡ a = omega arith in
        let down : v / 128 ≡ b % 128 + c * 128 = omega arith in
        let middle : 128 + v / 128 % 128 ≡ b = rw down (omega arith) in
        let high : v / 128 / 128 ≡ c = rw down (omega arith) in
        made (a ∷ b ∷ c ∷ []) rest (three_bytes a rest first b again c (omega (arith, n)) h) e
        (bytes_three v (omega (arith, n)) (omega (arith, n)) ∙ rw (low, middle, high)) refl (omega arith)

    later : (again : 128 ≤ b) (rest : List ℕ) → Gives (b ∷ rest) → Shortest (a ∷ b ∷ rest) value size
    later again [] e = not_whole (sym (cut-after-two a [] first b again) ∙ e)
    later again (c ∷ rest) e = go (eqb c 0) (ltb 3 c) refl refl
      where
        go : (s t : Bool) → eqb c 0 ≡ s → ltb 3 c ≡ t → Shortest (a ∷ b ∷ c ∷ rest) value size
        go true t p q = not_whole (sym (zero_third a rest first b again) ∙ rw (eqb-true c 0 p) at e)
        go false true p q = not_whole (sym (large_third a rest first b again c (ltb-true 3 c q)) ∙ e)
        go false false p q = three again c rest (eqb-false c 0 p) (ltb-false 3 c q) e

    more : (rest : List ℕ) → Gives (b ∷ rest) → Shortest (a ∷ b ∷ rest) value size
    more rest e = go (eqb b 0) (ltb b 128) refl refl
      where
        go : (s t : Bool) → eqb b 0 ≡ s → ltb b 128 ≡ t → Shortest (a ∷ b ∷ rest) value size
        go true t p q = not_whole (sym (zero_second a rest first) ∙ rw (eqb-true b 0 p) at e)
        go false true p q = two rest (eqb-false b 0 p) (ltb-true b 128 q) e
        go false false p q = later (ltb-false b 128 q) rest e

pub shortest : (bytes : List ℕ) → Bytes bytes → {value size : ℕ} → number_in bytes ≡ whole value size → Shortest bytes value size
unfolding number_in
shortest [] bytes e = not_whole e
shortest (a ∷ rest) bytes {value} {size} e = go (ltb a 128) rest refl bytes e
  where
    go : (t : Bool) (later : List ℕ) → ltb a 128 ≡ t → Bytes (a ∷ later) → number_in (a ∷ later) ≡ whole value size → Shortest (a ∷ later) value size
    go true later p bytes e = one a (bytes 0) value size later (ltb-true a 128 p) e
    go false [] p bytes e = not_whole (sym (cut-after_one a [] (ltb-false a 128 p)) ∙ e)
    go false (b ∷ rest) p bytes e = more a (bytes 0) value size (ltb-false a 128 p) b (bytes 1) rest e
