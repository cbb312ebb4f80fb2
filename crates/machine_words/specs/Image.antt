-- A machine as a row of 77 words: the next place; four registers of 2 words from word 1; six buffers of 3 from word 9; five stations of 7 from
-- word 27; three store buffers of 5 from word 62. A number goes as its pattern. Free is 0, and so is every word that a state has no use for.
use Rattle.std.specs.Prelude.{cond, List, [], ◌∷◌, ◌++◌, ℕ, zero, suc, ◌+◌, ◌*◌, ◌%◌, eqb, Float, set}
use Rattle.std.proofs.lemmas.List.Edits.{sets}
use Rattle.numbers.specs.declared.Operation.{Operation}
use Rattle.numbers.specs.declared.Operation.TheVariants.{Add, Subtract, Multiply, Divide}
use Rattle.numbers.specs.Number.{pattern_of, number_of}
use Rattle.theory_machine.specs.Tags.{register_count, buffer_count, station_count, store_count}
use Rattle.theory_machine.specs.Machine.{Machine, Operand, num, tag, Buffer, free_buffer, waiting, full, Station, free_station, holding, done, StoreBuffer, free_store, live, standing}
use Rattle.machine_words.specs.Rows.{word_at}

-- where each row begins, and how many words each slot of it has
abbrev pub registers_from : ℕ
registers_from = 1

abbrev pub register_width : ℕ
register_width = 2

abbrev pub buffers_from : ℕ
buffers_from = registers_from + register_count * register_width

abbrev pub buffer_width : ℕ
buffer_width = 3

abbrev pub stations_from : ℕ
stations_from = buffers_from + buffer_count * buffer_width

abbrev pub station_width : ℕ
station_width = 7

abbrev pub stores_from : ℕ
stores_from = stations_from + station_count * station_width

abbrev pub store_width : ℕ
store_width = 5

-- the words of a machine
abbrev pub image_length : ℕ
image_length = stores_from + store_count * store_width

-- so many slots, one after another
abbrev pub row_at : {A : Type 0} → (ℕ → A) → (width count place : ℕ) → List A
row_at slot_at width zero p = []
row_at slot_at width (suc n) p = slot_at p ∷ row_at slot_at width n (p + width)

-- READING. A kind or state above the last one reads as the last one; a tag is the word's low eight bits.
module _ (image : List ℕ) where
  abbrev pub operand_at : (place : ℕ) → Operand Float
  operand_at p = cond (eqb (word_at image p) 0) (num (number_of (word_at image (p + 1)))) (tag (word_at image (p + 1) % 256))

  abbrev pub operation_at : (place : ℕ) → Operation
  operation_at p =
      let w = word_at image p in
      cond (eqb w 0) Add (cond (eqb w 1) Subtract (cond (eqb w 2) Multiply Divide))

  abbrev pub buffer_at : (place : ℕ) → Buffer Float
  buffer_at p =
      cond (eqb (word_at image p) 0) free_buffer
      (cond (eqb (word_at image p) 1) (waiting (word_at image (p + 1)) (word_at image (p + 2)))
      (full (word_at image (p + 1)) (number_of (word_at image (p + 2)))))

  abbrev pub station_at : (place : ℕ) → Station Float
  station_at p =
      cond (eqb (word_at image p) 0) free_station
      (cond (eqb (word_at image p) 1) (holding (word_at image (p + 1)) (operation_at (p + 2)) (operand_at (p + 3)) (operand_at (p + 5)))
      (done (word_at image (p + 1)) (number_of (word_at image (p + 2)))))

  abbrev pub store_at : (place : ℕ) → StoreBuffer Float
  store_at p =
      cond (eqb (word_at image p) 0) free_store (live (word_at image (p + 1)) (word_at image (p + 2)) (operand_at (p + 3)))

  abbrev pub machine_in : Machine Float
  machine_in =
      standing (word_at image 0) (row_at operand_at register_width register_count registers_from) (row_at buffer_at buffer_width buffer_count buffers_from)
      (row_at station_at station_width station_count stations_from) (row_at store_at store_width store_count stores_from)

-- WRITING
abbrev pub operand_words : Operand Float → List ℕ
operand_words (num x) = 0 ∷ pattern_of x ∷ []
operand_words (tag t) = 1 ∷ t ∷ []

abbrev pub operation_word : Operation → ℕ
operation_word Add = 0
operation_word Subtract = 1
operation_word Multiply = 2
operation_word Divide = 3

abbrev pub buffer_words : Buffer Float → List ℕ
buffer_words free_buffer = 0 ∷ 0 ∷ 0 ∷ []
buffer_words (waiting p c) = 1 ∷ p ∷ c ∷ []
buffer_words (full p x) = 2 ∷ p ∷ pattern_of x ∷ []

abbrev pub station_words : Station Float → List ℕ
station_words free_station = 0 ∷ 0 ∷ 0 ∷ 0 ∷ 0 ∷ 0 ∷ 0 ∷ []
station_words (holding p o x y) = 1 ∷ p ∷ operation_word o ∷ operand_words x ++ operand_words y
station_words (done p x) = 2 ∷ p ∷ pattern_of x ∷ 0 ∷ 0 ∷ 0 ∷ 0 ∷ []

abbrev pub store_words : StoreBuffer Float → List ℕ
store_words free_store = 0 ∷ 0 ∷ 0 ∷ 0 ∷ 0 ∷ []
store_words (live p c x) = 1 ∷ p ∷ c ∷ operand_words x

-- each slot's words at its place
abbrev pub row_over : {A : Type 0} → (A → List ℕ) → (width place : ℕ) → List A → List ℕ → List ℕ
row_over words width p [] image = image
row_over words width p (x ∷ xs) image = row_over words width (p + width) xs (sets image p (words x))

abbrev pub registers_over : List (Operand Float) → List ℕ → List ℕ
registers_over = row_over operand_words register_width registers_from

abbrev pub buffers_over : List (Buffer Float) → List ℕ → List ℕ
buffers_over = row_over buffer_words buffer_width buffers_from

abbrev pub stations_over : List (Station Float) → List ℕ → List ℕ
stations_over = row_over station_words station_width stations_from

abbrev pub stores_over : List (StoreBuffer Float) → List ℕ → List ℕ
stores_over = row_over store_words store_width stores_from

abbrev pub image_over : Machine Float → List ℕ → List ℕ
image_over m image =
    stores_over m.stores (stations_over m.stations (buffers_over m.buffers (registers_over m.registers (set image 0 m.next))))
