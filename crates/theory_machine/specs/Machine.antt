-- Document 01, "Tags and what the machine holds": the machine, over any kind of number. Rows are lists.
use Rattle.std.specs.Prelude.{◌≡◌, Bool, true, false, List, ℕ, length, get_or, set}
use Rattle.std.proofs.Math.Option.{Option, none, some}
use Rattle.numbers.specs.declared.Operation.{Operation}
use Rattle.words.specs.declared.Areas.{Areas}
use Rattle.theory_machine.specs.Tags.{register_count, buffer_count, station_count, store_count}

-- A KIND OF NUMBER: a type, its zero, and the four operations. Nothing is assumed of them.
pub record Kind : Type 1 where
  pub Num : Type 0
  pub nought : Num
  pub apply : Operation → Num → Num → Num

-- WHAT IS LENT: the list, the operand cells ("only read"), and the length of the area of result cells ("only written")
pub record Lent (A : Type 0) : Type 0 where
  pub words : List ℕ
  pub operands : List A
  pub results : ℕ

abbrev pub areas_of : {A : Type 0} → Lent A → Areas
areas_of L = record { operands = length L.operands; results = L.results }

-- "An operand is either a number or the tag it waits for."
pub data Operand (A : Type 0) : Type 0 where
  num : A → Operand A
  tag : ℕ → Operand A

-- "free, waiting (place, cell) or full (place, number)"
pub data Buffer (A : Type 0) : Type 0 where
  free_buffer : Buffer A
  waiting : (place cell : ℕ) → Buffer A
  full : (place : ℕ) → A → Buffer A

-- "free, holding (place, operation, sink operand and source operand) or done (place, result)"
pub data Station (A : Type 0) : Type 0 where
  free_station : Station A
  holding : (place : ℕ) → Operation → (sink source : Operand A) → Station A
  done : (place : ℕ) → A → Station A

-- "free or live (place, cell, operand)"
pub data StoreBuffer (A : Type 0) : Type 0 where
  free_store : StoreBuffer A
  live : (place cell : ℕ) → Operand A → StoreBuffer A

-- "The machine holds: the next place in the list; four registers, each an operand; six buffers; five stations; three store buffers"
pub record Machine (A : Type 0) : Type 0 where
  pub next : ℕ
  pub registers : List (Operand A)
  pub buffers : List (Buffer A)
  pub stations : List (Station A)
  pub stores : List (StoreBuffer A)

pub record Shape {A : Type 0} (m : Machine A) : Type 0 where
  pub four_registers : length m.registers ≡ register_count
  pub six_buffers : length m.buffers ≡ buffer_count
  pub five_stations : length m.stations ≡ station_count
  pub three_stores : length m.stores ≡ store_count

-- a record of the release log: "place, cell, number"
pub record Record (A : Type 0) : Type 0 where
  pub place : ℕ
  pub cell : ℕ
  pub number : A

-- A MACHINE OF THESE PARTS: with the record above, the one place that names all of them
abbrev pub standing : {A : Type 0} → (next : ℕ) → List (Operand A) → List (Buffer A) → List (Station A) → List (StoreBuffer A) → Machine A
standing next rs bs ss ts = record { next = next; registers = rs; buffers = bs; stations = ss; stores = ts }

-- THE MACHINE WITH ONE PART CHANGED
module _ {A : Type 0} (m : Machine A) where
  abbrev pub next_is : ℕ → Machine A
  next_is n = standing n m.registers m.buffers m.stations m.stores

  abbrev pub registers_are : List (Operand A) → Machine A
  registers_are rs = standing m.next rs m.buffers m.stations m.stores

  abbrev pub buffers_are : List (Buffer A) → Machine A
  buffers_are bs = standing m.next m.registers bs m.stations m.stores

  abbrev pub stations_are : List (Station A) → Machine A
  stations_are ss = standing m.next m.registers m.buffers ss m.stores

  abbrev pub stores_are : List (StoreBuffer A) → Machine A
  stores_are ts = standing m.next m.registers m.buffers m.stations ts

  -- one slot of a row, by its index
  abbrev pub put_register : (i : ℕ) → Operand A → Machine A
  put_register i o = registers_are (set m.registers i o)

  abbrev pub put_buffer : (i : ℕ) → Buffer A → Machine A
  put_buffer i b = buffers_are (set m.buffers i b)

  abbrev pub put_station : (i : ℕ) → Station A → Machine A
  put_station i s = stations_are (set m.stations i s)

  abbrev pub put_store : (i : ℕ) → StoreBuffer A → Machine A
  put_store i s = stores_are (set m.stores i s)

-- THE ROWS, read by index
module _ {A : Type 0} where
  abbrev pub buffer_at : Machine A → ℕ → Buffer A
  buffer_at m i = get_or m.buffers i free_buffer

  abbrev pub station_at : Machine A → ℕ → Station A
  station_at m i = get_or m.stations i free_station

  abbrev pub store_at : Machine A → ℕ → StoreBuffer A
  store_at m i = get_or m.stores i free_store

abbrev pub register_at : (K : Kind) → Machine K.Num → ℕ → Operand K.Num
register_at K m r = get_or m.registers r (num K.nought)

-- SLOT BY SLOT
module _ {A : Type 0} where
  abbrev pub is_free_buffer : Buffer A → Bool
  is_free_buffer free_buffer = true
  is_free_buffer (waiting p c) = false
  is_free_buffer (full p v) = false

  abbrev pub is_free_station : Station A → Bool
  is_free_station free_station = true
  is_free_station (holding p o x y) = false
  is_free_station (done p v) = false

  abbrev pub is_free_store : StoreBuffer A → Bool
  is_free_store free_store = true
  is_free_store (live p c x) = false

  -- the place that a slot holds, if any
  abbrev pub buffer_place : Buffer A → Option ℕ
  buffer_place free_buffer = none
  buffer_place (waiting p c) = some p
  buffer_place (full p v) = some p

  abbrev pub station_place : Station A → Option ℕ
  station_place free_station = none
  station_place (holding p o x y) = some p
  station_place (done p v) = some p

  abbrev pub store_place : StoreBuffer A → Option ℕ
  store_place free_store = none
  store_place (live p c x) = some p

  -- the cell that a slot holds, if any
  abbrev pub buffer_cell : Buffer A → Option ℕ
  buffer_cell free_buffer = none
  buffer_cell (waiting p c) = some c
  buffer_cell (full p v) = none

  abbrev pub store_cell : StoreBuffer A → Option ℕ
  store_cell free_store = none
  store_cell (live p c x) = some c
