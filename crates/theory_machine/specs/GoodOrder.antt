-- Document 01, "Good order" and "Drained": each clause of the sentence as one definition.
use Rattle.std.specs.Prelude.{Bool, true, false, not, ◌&&◌, ◌||◌, List, [], ◌∷◌, ℕ, ltb, leb, eqb, length, get_or}
use Rattle.std.proofs.Math.Option.{Option, none, some}
use Rattle.words.specs.declared.Areas.{Areas}
use Rattle.words.specs.Instructions.{is_cell}
use Rattle.theory_machine.specs.Rows.{all_of, all_below}
use Rattle.theory_machine.specs.Tags.{register_count, buffer_count, station_count, store_count, Slot, neither, buffer, station, slot_of, suits}
use Rattle.theory_machine.specs.Machine.{Kind, Operand, num, tag, Buffer, free_buffer, waiting, full, Station, free_station, holding, done, StoreBuffer, free_store, live, Machine, buffer_at, station_at, store_at, register_at, is_free_buffer, is_free_station, is_free_store, buffer_place, station_place, store_place, buffer_cell, store_cell}

-- THE GIVER OF A TAG: the buffer or station that it names, with the place that it holds; nobody where that is free
pub data Giver : Type 0 where
  nobody : Giver
  from_buffer from_station : (place : ℕ) → Giver

abbrev pub is_some : Giver → Bool
is_some nobody = false
is_some (from_buffer p) = true
is_some (from_station p) = true

module _ {A : Type 0} where
  abbrev pub buffer_giver : Buffer A → Giver
  buffer_giver free_buffer = nobody
  buffer_giver (waiting p c) = from_buffer p
  buffer_giver (full p v) = from_buffer p

  abbrev pub station_giver : Station A → Giver
  station_giver free_station = nobody
  station_giver (holding p o x y) = from_station p
  station_giver (done p v) = from_station p

  abbrev pub giver_in : List (Buffer A) → List (Station A) → Slot → Giver
  giver_in bs ss neither = nobody
  giver_in bs ss (buffer i) = buffer_giver (get_or bs i free_buffer)
  giver_in bs ss (station i) = station_giver (get_or ss i free_station)

  unfoldable pub giver : List (Buffer A) → List (Station A) → (t : ℕ) → Giver
  giver bs ss t = giver_in bs ss (slot_of t)

  abbrev pub giver_of : Machine A → (t : ℕ) → Giver
  giver_of m = giver m.buffers m.stations

-- TESTS OF ONE SLOT

-- a place, or none, below n
abbrev pub place_below : (n : ℕ) → Option ℕ → Bool
place_below n none = true
place_below n (some p) = ltb p n

-- a cell, or none, below 256 and below its area's length
abbrev pub cell_in : (area : ℕ) → Option ℕ → Bool
cell_in area none = true
cell_in area (some c) = is_cell area c

-- a slot holds cell c
abbrev pub has_cell : (c : ℕ) → Option ℕ → Bool
has_cell c none = false
has_cell c (some d) = eqb d c

-- two slots do not hold the same cell
abbrev pub apart : Option ℕ → Option ℕ → Bool
apart none b = true
apart (some c) b = not (has_cell c b)

-- a buffer of place at most q, or a station of place below q; that there is one is the naming rule's
abbrev pub before : (q : ℕ) → Giver → Bool
before q nobody = true
before q (from_buffer p) = leb p q
before q (from_station p) = ltb p q

module _ {A : Type 0} (m : Machine A) where
  -- a tag names a buffer or station that is not free
  abbrev pub named : Operand A → Bool
  named (num x) = true
  named (tag t) = is_some (giver_of m t)

  abbrev pub station_named : Station A → Bool
  station_named free_station = true
  station_named (holding p o x y) = named x && named y
  station_named (done p v) = true

  abbrev pub store_named : StoreBuffer A → Bool
  store_named free_store = true
  store_named (live p c x) = named x

  -- a tag held at place q
  abbrev pub held_at : (q : ℕ) → Operand A → Bool
  held_at q (num x) = true
  held_at q (tag t) = before q (giver_of m t)

  abbrev pub station_held : Station A → Bool
  station_held free_station = true
  station_held (holding p o x y) = held_at p x && held_at p y
  station_held (done p v) = true

  abbrev pub store_held : StoreBuffer A → Bool
  store_held free_store = true
  store_held (live p c x) = held_at p x

abbrev pub kind_fits : {A : Type 0} → (i : ℕ) → Station A → Bool
kind_fits i free_station = true
kind_fits i (holding p o x y) = suits i o
kind_fits i (done p v) = true

-- THE CLAUSES, in 01's order; where a clause speaks of several rows, with one test a row
module _ (K : Kind) where
  -- "the next place is at most the list's length"
  abbrev pub next_in_list : (words : List ℕ) → Machine K.Num → Bool
  next_in_list words m = leb m.next (length words)

  -- "each held place is below it"
  abbrev pub place_tests : Machine K.Num → List Bool
  place_tests m =
      all_below buffer_count (λ i. place_below m.next (buffer_place (buffer_at m i)))
      ∷ all_below station_count (λ i. place_below m.next (station_place (station_at m i)))
      ∷ all_below store_count (λ i. place_below m.next (store_place (store_at m i)))
      ∷ []

  abbrev pub places_below : Machine K.Num → Bool
  places_below m = all_of (place_tests m)

  -- "every tag held anywhere names a buffer or station that is not free"; "For a register's tag only the naming rule applies."
  abbrev pub name_tests : Machine K.Num → List Bool
  name_tests m =
      all_below register_count (λ i. named m (register_at K m i))
      ∷ all_below station_count (λ i. station_named m (station_at m i))
      ∷ all_below store_count (λ i. store_named m (store_at m i))
      ∷ []

  abbrev pub tags_named : Machine K.Num → Bool
  tags_named m = all_of (name_tests m)

  -- "a tag held at place q names a buffer of place at most q or a station of place below q"
  abbrev pub before_tests : Machine K.Num → List Bool
  before_tests m =
      all_below station_count (λ i. station_held m (station_at m i))
      ∷ all_below store_count (λ i. store_held m (store_at m i))
      ∷ []

  abbrev pub tags_before : Machine K.Num → Bool
  tags_before m = all_of (before_tests m)

  -- "add stations hold only add and subtract, the other two only multiply and divide"
  abbrev pub kinds_fit : Machine K.Num → Bool
  kinds_fit m = all_below station_count (λ i. kind_fits i (station_at m i))

  -- "cells are below 256 and below their area's length"
  abbrev pub cell_tests : Areas → Machine K.Num → List Bool
  cell_tests areas m =
      all_below buffer_count (λ i. cell_in areas.operands (buffer_cell (buffer_at m i)))
      ∷ all_below store_count (λ i. cell_in areas.results (store_cell (store_at m i)))
      ∷ []

  abbrev pub cells_in_areas : Areas → Machine K.Num → Bool
  cells_in_areas areas m = all_of (cell_tests areas m)

  -- "no two live store buffers have the same cell"
  abbrev pub stores_apart : Machine K.Num → Bool
  stores_apart m =
      all_below store_count (λ i. all_below store_count (λ j. eqb i j || apart (store_cell (store_at m i)) (store_cell (store_at m j))))

  abbrev pub clauses : (words : List ℕ) → Areas → Machine K.Num → List Bool
  clauses words areas m =
      next_in_list words m
      ∷ places_below m
      ∷ tags_named m
      ∷ tags_before m
      ∷ kinds_fit m
      ∷ cells_in_areas areas m
      ∷ stores_apart m
      ∷ []

  -- "Good order, with the lent list and areas"
  unfoldable pub good_order : (words : List ℕ) → Areas → Machine K.Num → Bool
  good_order words areas m = all_of (clauses words areas m)

-- "every buffer, station and store buffer is free"
unfoldable pub nothing_live : {A : Type 0} → Machine A → Bool
nothing_live m =
    all_of
    (all_below buffer_count (λ i. is_free_buffer (buffer_at m i))
    ∷ all_below station_count (λ i. is_free_station (station_at m i))
    ∷ all_below store_count (λ i. is_free_store (store_at m i))
    ∷ [])

-- "Drained: next place equals the length, and every buffer, station and store buffer is free."
unfoldable pub drained : {A : Type 0} → (list : ℕ) → Machine A → Bool
drained list m = eqb m.next list && nothing_live m
