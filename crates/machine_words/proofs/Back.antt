-- A machine comes back from its words (specs/Theorem.antt).
use mathlib.Core.Path.{◌≡◌, refl, sym, ap, ◌∙◌, subst}
use mathlib.Core.List.{List, [], ◌∷◌, ◌++◌}
use Prim.Native.Nat.{ℕ, zero, suc, ◌+◌, ◌*◌, ◌%◌, ◌≤◌, ◌<◌}
use native.Mathlib.Nat.{not-suc-le-zero, add-zero, add_comm, zero-mul, suc-mul}
use native.Mathlib.Omega.{arith}
use lib.Ieee.{Float}
use lib.ListN.{length, set, length-set, length-append, get_or-append}
use lib.Seq.{sets, length-sets, get_or-set_same, get_or-set_other, get_or-append-add}
use Rattle.numbers.specs.declared.Operation.{Operation}
use Rattle.numbers.specs.declared.Operation.TheVariants.{Add, Subtract, Multiply, Divide}
use Rattle.numbers.specs.Number.{pattern_of}
use Rattle.numbers.proofs.Same.{number_back}
use Rattle.theory_machine.specs.Machine.{Operand, num, tag, Buffer, free_buffer, waiting, full, Station, free_station, holding, done, StoreBuffer, free_store, live}
use Rattle.machine_words.specs.Rows.{word_at}
use Rattle.machine_words.specs.Image.{operand_at, operation_at, buffer_at, station_at, store_at, row_at, operand_words, operation_word, buffer_words, station_words, store_words, row_over, registers_over, buffers_over, stations_over, stores_over}
use Rattle.machine_words.specs.Theorem.{OperandFits, BufferFits, StationFits, StoreFits, Each, ImageBack}

-- WORDS STORED IN A ROW
before : (l ws : List ℕ) (p k : ℕ) → k < p → word_at (sets l p ws) k ≡ word_at l k
before l [] p k h = refl
before l (w ∷ ws) p k h =
    before (set l p w) ws (suc p) k (omega arith) ∙ get_or-set_other l p k w 0 (λ (e : k ≡ p). omega (arith, e, h))

inside : (l ws : List ℕ) (p i : ℕ) → i < length ws → p + length ws ≤ length l → word_at (sets l p ws) (p + i) ≡ word_at ws i
inside l [] p i h room = absurd (not-suc-le-zero h)
inside l (w ∷ ws) p zero h room =
    ap (word_at (sets (set l p w) (suc p) ws)) (add-zero p) ∙ before (set l p w) ws (suc p) p (omega arith) ∙ get_or-set_same l p w 0 (omega arith)
inside l (w ∷ ws) p (suc i) h room =
    let e : p + suc i ≡ suc p + i = omega arith in
    let n = length-set l p w in
    ap (word_at (sets (set l p w) (suc p) ws)) e ∙ inside (set l p w) ws (suc p) i (omega (arith, h)) (omega (arith, room, n))

-- the row has these words from a place on
abbrev Holds : (image : List ℕ) (p : ℕ) (ws : List ℕ) → Type 0
Holds image p ws = (i : ℕ) → i < length ws → word_at image (p + i) ≡ word_at ws i

-- the first words, and the rest
holds_first : (image : List ℕ) (p : ℕ) (us vs : List ℕ) → Holds image p (us ++ vs) → Holds image p us
holds_first image p us vs h i lt = let n = length-append us vs in h i (omega (arith, n, lt)) ∙ get_or-append us vs 0 i lt

holds_rest : (image : List ℕ) (p : ℕ) (us vs : List ℕ) → Holds image p (us ++ vs) → Holds image (p + length us) vs
holds_rest image p us vs h i lt =
    let n = length-append us vs in
    let e : p + length us + i ≡ p + (length us + i) = omega arith in
    ap (word_at image) e ∙ h (length us + i) (omega (arith, n, lt)) ∙ get_or-append-add us vs i 0

-- SLOTS
module _ (image : List ℕ) (p : ℕ) where
  at_first : (w : ℕ) (ws : List ℕ) → Holds image p (w ∷ ws) → word_at image p ≡ w
  at_first w ws h = ap (word_at image) (sym (add-zero p)) ∙ h 0 (omega arith)

  operand_back : (x : Operand Float) → Holds image p (operand_words x) → OperandFits x → operand_at image p ≡ x
  operand_back (num x) h f = rw (at_first 0 (pattern_of x ∷ []) h, h 1 (omega arith), number_back x f)
  operand_back (tag t) h f = let small : t % 256 ≡ t = omega (arith, f) in rw (at_first 1 (t ∷ []) h, h 1 (omega arith)) (ap tag small)

  operation-back : (o : Operation) → word_at image p ≡ operation_word o → operation_at image p ≡ o
  operation-back Add e = rw e
  operation-back Subtract e = rw e
  operation-back Multiply e = rw e
  operation-back Divide e = rw e

  buffer_back : (b : Buffer Float) → Holds image p (buffer_words b) → BufferFits b → buffer_at image p ≡ b
  buffer_back free_buffer h f = rw (at_first 0 (0 ∷ 0 ∷ []) h)
  buffer_back (waiting q c) h f = rw (at_first 1 (q ∷ c ∷ []) h, h 1 (omega arith), h 2 (omega arith))
  buffer_back (full q x) h f = rw (at_first 2 (q ∷ pattern_of x ∷ []) h, h 1 (omega arith), h 2 (omega arith), number_back x f)

module _ (image : List ℕ) (p : ℕ) where
  station_back : (s : Station Float) → Holds image p (station_words s) → StationFits s → station_at image p ≡ s
  station_back free_station h f = rw (at_first image p 0 (0 ∷ 0 ∷ 0 ∷ 0 ∷ 0 ∷ 0 ∷ []) h)
  station_back (done q x) h f = rw (at_first image p 2 (q ∷ pattern_of x ∷ 0 ∷ 0 ∷ 0 ∷ 0 ∷ []) h, h 1 (omega arith), h 2 (omega arith), number_back x f)
  station_back (holding q o x y) h f =
      let us : List ℕ = 1 ∷ q ∷ operation_word o ∷ [] in
      let head = holds_first image p us (operand_words x ++ operand_words y) h in
      let rest = holds_rest image p us (operand_words x ++ operand_words y) h in
      let sink = operand_back image (p + 3) x (holds_first image (p + 3) (operand_words x) (operand_words y) rest) f.0 in
      let source = operand_back image (p + 5) y (second x (holds_rest image (p + 3) (operand_words x) (operand_words y) rest)) f.1 in
      rw (at_first image p 1 (q ∷ operation_word o ∷ []) head, head 1 (omega arith), operation-back image (p + 2) o (head 2 (omega arith)), sink, source)
    where
      second : (x : Operand Float) → Holds image (p + 3 + length (operand_words x)) (operand_words y) → Holds image (p + 5) (operand_words y)
      second (num n) h = let e : p + 3 + 2 ≡ p + 5 = omega arith in subst (λ (q : ℕ). Holds image q (operand_words y)) e h
      second (tag t) h = let e : p + 3 + 2 ≡ p + 5 = omega arith in subst (λ (q : ℕ). Holds image q (operand_words y)) e h

  store_back : (s : StoreBuffer Float) → Holds image p (store_words s) → StoreFits s → store_at image p ≡ s
  store_back free_store h f = rw (at_first image p 0 (0 ∷ 0 ∷ 0 ∷ 0 ∷ []) h)
  store_back (live q c x) h f =
      let us : List ℕ = 1 ∷ q ∷ c ∷ [] in
      let head = holds_first image p us (operand_words x) h in
      rw (at_first image p 1 (q ∷ c ∷ []) head, head 1 (omega arith), head 2 (omega arith), operand_back image (p + 3) x (holds_rest image p us (operand_words x) h) f)

-- as many words each
operand_wide : (x : Operand Float) → length (operand_words x) ≡ 2
operand_wide (num x) = refl
operand_wide (tag t) = refl

buffer_wide : (b : Buffer Float) → length (buffer_words b) ≡ 3
buffer_wide free_buffer = refl
buffer_wide (waiting p c) = refl
buffer_wide (full p x) = refl

station_wide : (s : Station Float) → length (station_words s) ≡ 7
station_wide free_station = refl
station_wide (holding p o (num x) (num y)) = refl
station_wide (holding p o (num x) (tag t)) = refl
station_wide (holding p o (tag t) (num y)) = refl
station_wide (holding p o (tag t) (tag u)) = refl
station_wide (done p x) = refl

store_wide : (s : StoreBuffer Float) → length (store_words s) ≡ 5
store_wide free_store = refl
store_wide (live p c (num x)) = refl
store_wide (live p c (tag t)) = refl

-- what a row needs of its slots
record Slot (A : Type 0) : Type 1 where
  words : A → List ℕ
  width : ℕ
  at : List ℕ → ℕ → A
  Fits : A → Type 0
  wide : (x : A) → length (words x) ≡ width
  back : (image : List ℕ) (p : ℕ) (x : A) → Holds image p (words x) → Fits x → at image p ≡ x

register : Slot (Operand Float)
register = record { words = operand_words; width = 2; at = operand_at; Fits = OperandFits; wide = operand_wide; back = operand_back }

buffer : Slot (Buffer Float)
buffer = record { words = buffer_words; width = 3; at = buffer_at; Fits = BufferFits; wide = buffer_wide; back = buffer_back }

station : Slot (Station Float)
station = record { words = station_words; width = 7; at = station_at; Fits = StationFits; wide = station_wide; back = station_back }

store : Slot (StoreBuffer Float)
store = record { words = store_words; width = 5; at = store_at; Fits = StoreFits; wide = store_wide; back = store_back }

-- ROWS OF SLOTS
module _ {A : Type 0} (K : Slot A) where
  open K use {words, width, at, Fits, wide, back}

  -- how many words they have together
  abbrev span : List A → ℕ
  span [] = 0
  span (x ∷ xs) = width + span xs

  row-length : (xs : List A) (image : List ℕ) (p : ℕ) → length (row_over words width p xs image) ≡ length image
  row-length [] image p = refl
  row-length (x ∷ xs) image p = row-length xs (sets image p (words x)) (p + width) ∙ length-sets image p (words x)

  row_before : (xs : List A) (image : List ℕ) (p k : ℕ) → k < p → word_at (row_over words width p xs image) k ≡ word_at image k
  row_before [] image p k h = refl
  row_before (x ∷ xs) image p k h = row_before xs (sets image p (words x)) (p + width) k (omega (arith, h)) ∙ before image (words x) p k h

  -- read from a row that has the same words up to their end
  row_back : (xs : List A) (image : List ℕ) (p : ℕ) → p + span xs ≤ length image → Each Fits xs → (later : List ℕ) → ((k : ℕ) → k < p + span xs → word_at later k ≡ word_at (row_over words width p xs image) k)
      → row_at (at later) width (length xs) p ≡ xs
  row_back [] image p room f later same = refl
  row_back (x ∷ xs) image p room f later same =
      let n = wide x in
      let stored = sets image p (words x) in
      let l = length-sets image p (words x) in
      let here : Holds later p (words x) =
      λ i h. same (p + i) (omega (arith, h, n)) ∙ row_before xs stored (p + width) (p + i) (omega (arith, h, n)) ∙ inside image (words x) p i h (omega (arith, room, n)) in
      λ j. back later p x here f.0 j ∷ row_back xs stored (p + width) (omega (arith, room, l)) f.1 later (λ k h. same k (omega (arith, h))) j

  span-count : (xs : List A) → span xs ≡ length xs * width
  span-count [] = sym (zero-mul width)
  span-count (x ∷ xs) = ap (λ (n : ℕ). width + n) (span-count xs) ∙ add_comm width (length xs * width) ∙ sym (suc-mul (length xs) width)

  span_of : (xs : List A) (n : ℕ) → length xs ≡ n → span xs ≡ n * width
  span_of xs n e = span-count xs ∙ ap (λ (k : ℕ). k * width) e

-- THE MACHINE
pub image_back : ImageBack
unfolding register buffer station store
image_back m S F image room =
    let i₀ = set image 0 m.next in
    let i₁ = registers_over m.registers i₀ in
    let i₂ = buffers_over m.buffers i₁ in
    let i₃ = stations_over m.stations i₂ in
    let i₄ = stores_over m.stores i₃ in
    let n₀ = length-set image 0 m.next in
    let n₁ = row-length register m.registers i₀ 1 in
    let n₂ = row-length buffer m.buffers i₁ 9 in
    let n₃ = row-length station m.stations i₂ 27 in
    let s₁ : span register m.registers ≡ 8 = span_of register m.registers 4 S.four_registers in
    let s₂ : span buffer m.buffers ≡ 18 = span_of buffer m.buffers 6 S.six_buffers in
    let s₃ : span station m.stations ≡ 35 = span_of station m.stations 5 S.five_stations in
    let s₄ : span store m.stores ≡ 15 = span_of store m.stores 3 S.three_stores in
    let after₃ : (k : ℕ) → k < 62 → word_at i₄ k ≡ word_at i₃ k = row_before store m.stores i₃ 62 in
    let after₂ : (k : ℕ) → k < 27 → word_at i₄ k ≡ word_at i₂ k = λ k h. after₃ k (omega (arith, h)) ∙ row_before station m.stations i₂ 27 k h in
    let after₁ : (k : ℕ) → k < 9 → word_at i₄ k ≡ word_at i₁ k = λ k h. after₂ k (omega (arith, h)) ∙ row_before buffer m.buffers i₁ 9 k h in
    let next : word_at i₄ 0 ≡ m.next =
    after₁ 0 (omega arith) ∙ row_before register m.registers i₀ 1 0 (omega arith) ∙ get_or-set_same image 0 m.next 0 (omega (arith, room)) in
    let r = row_back register m.registers i₀ 1 (omega (arith, room, n₀, s₁)) F.registers i₄ (λ k h. after₁ k (omega (arith, h, s₁))) in
    let b = row_back buffer m.buffers i₁ 9 (omega (arith, room, n₀, n₁, s₂)) F.buffers i₄ (λ k h. after₂ k (omega (arith, h, s₂))) in
    let s = row_back station m.stations i₂ 27 (omega (arith, room, n₀, n₁, n₂, s₃)) F.stations i₄ (λ k h. after₃ k (omega (arith, h, s₃))) in
    let t = row_back store m.stores i₃ 62 (omega (arith, room, n₀, n₁, n₂, n₃, s₄)) F.stores i₄ (λ k h. refl) in
    λ j. record {
      next = next j;
      registers = subst (λ (n : ℕ). row_at (operand_at i₄) 2 n 1 ≡ m.registers) S.four_registers r j;
      buffers = subst (λ (n : ℕ). row_at (buffer_at i₄) 3 n 9 ≡ m.buffers) S.six_buffers b j;
      stations = subst (λ (n : ℕ). row_at (station_at i₄) 7 n 27 ≡ m.stations) S.five_stations s j;
      stores = subst (λ (n : ℕ). row_at (store_at i₄) 5 n 62 ≡ m.stores) S.three_stores t j;
    }
