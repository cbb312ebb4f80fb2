-- What only private contracts cite: good order as the code goes, slot by slot, one test a slot with all its rules at once, then a row, then the
-- machine. The law is the good order of crate theory_machine, clause by clause; proofs/BySlots.antt shows that this is the same.
use Rattle.std.specs.Prelude.{Bool, true, cond, not, ◌&&◌, ◌||◌, List, [], ◌∷◌, map, ℕ, ltb, leb, eqb, length, get_or}
use Rattle.words.specs.declared.Areas.{Areas}
use Rattle.words.specs.Instructions.{is_cell}
use Rattle.theory_machine.specs.Rows.{all_of, all_below}
use Rattle.theory_machine.specs.Tags.{register_count, buffer_count, station_count, store_count, first_station, last_station, suits}
use Rattle.theory_machine.specs.Machine.{Kind, Operand, num, tag, Buffer, free_buffer, waiting, full, Station, free_station, holding, done, StoreBuffer, free_store, live, Machine, store_cell}
use Rattle.theory_machine.specs.GoodOrder as theory
use Rattle.theory_machine.specs.GoodOrder.{nobody, from_buffer, from_station, giver, giver_of, apart}

-- nobody's place, the largest number of a usize: no machine in good order holds one as high
abbrev pub never : ℕ
never = 0xFFFF_FFFF_FFFF_FFFF

abbrev pub place_of : theory.Giver → ℕ
place_of nobody = never
place_of (from_buffer p) = p
place_of (from_station p) = p

-- the place of each tag's giver
abbrev pub tags : List ℕ
tags = 0 ∷ 1 ∷ 2 ∷ 3 ∷ 4 ∷ 5 ∷ 6 ∷ 7 ∷ 8 ∷ 9 ∷ 10 ∷ 11 ∷ 12 ∷ []

abbrev pub place_table : {A : Type 0} → List (Buffer A) → List (Station A) → List ℕ
place_table bs ss = map (λ t. place_of (giver bs ss t)) tags

abbrev pub place_in : (table : List ℕ) → (t : ℕ) → ℕ
place_in table t = cond (ltb last_station t) never (get_or table t 0)

module _ {A : Type 0} where
  -- a buffer: its place is below next, and the cell of a waiting one is of the operand area
  abbrev pub buffer_good : (next operands : ℕ) → Buffer A → Bool
  buffer_good next operands free_buffer = true
  buffer_good next operands (waiting p c) = ltb p next && is_cell operands c
  buffer_good next operands (full p v) = ltb p next

  abbrev pub buffers_good : (next operands : ℕ) → List (Buffer A) → Bool
  buffers_good next operands bs = all_below buffer_count (λ i. buffer_good next operands (get_or bs i free_buffer))

  -- "no two live store buffers have the same cell"
  abbrev pub cells_apart : StoreBuffer A → StoreBuffer A → Bool
  cells_apart a b = apart (store_cell a) (store_cell b)

  abbrev pub stores_apart : List (StoreBuffer A) → Bool
  stores_apart ts = all_below store_count (λ i. all_below store_count (λ j. eqb i j || cells_apart (get_or ts i free_store) (get_or ts j free_store)))

  -- with f, the place of a tag's giver
  module _ (f : ℕ → ℕ) where
    -- "For a register's tag only the naming rule applies."
    abbrev pub register_good : Operand A → Bool
    register_good (num x) = true
    register_good (tag t) = not (eqb (f t) never)

    -- an operand held at place q: "a tag held at place q names a buffer of place at most q or a station of place below q"
    abbrev pub operand_good : (q : ℕ) → Operand A → Bool
    operand_good q (num x) = true
    operand_good q (tag t) = cond (ltb t first_station) (leb (f t) q) (ltb (f t) q)

    -- station i: its place is below next, and of a holding one the operation is of the station's kind and both operands are good
    abbrev pub station_good : (next i : ℕ) → Station A → Bool
    station_good next i free_station = true
    station_good next i (holding p o x y) = ltb p next && (suits i o && (operand_good p x && operand_good p y))
    station_good next i (done p v) = ltb p next

    -- a store buffer: its place is below next, its cell is of the result area, and its operand is good
    abbrev pub store_good : (next results : ℕ) → StoreBuffer A → Bool
    store_good next results free_store = true
    store_good next results (live p c x) = ltb p next && (is_cell results c && operand_good p x)

    abbrev pub registers_good : (nought : A) → List (Operand A) → Bool
    registers_good nought rs = all_below register_count (λ i. register_good (get_or rs i (num nought)))

    abbrev pub stations_good : (next : ℕ) → List (Station A) → Bool
    stations_good next ss = all_below station_count (λ i. station_good next i (get_or ss i free_station))

    abbrev pub stores_good : (next results : ℕ) → List (StoreBuffer A) → Bool
    stores_good next results ts = all_below store_count (λ i. store_good next results (get_or ts i free_store))

abbrev pub giver_place : {A : Type 0} → Machine A → (t : ℕ) → ℕ
giver_place m t = place_of (giver_of m t)

-- the machine, a row at a time
abbrev pub row_tests : (K : Kind) (words : List ℕ) → Areas → Machine K.Num → List Bool
row_tests K words areas m =
    leb m.next (length words)
    ∷ buffers_good m.next areas.operands m.buffers
    ∷ stations_good (giver_place m) m.next m.stations
    ∷ registers_good (giver_place m) K.nought m.registers
    ∷ stores_good (giver_place m) m.next areas.results m.stores
    ∷ stores_apart m.stores
    ∷ []

abbrev pub good_by_slots : (K : Kind) (words : List ℕ) → Areas → Machine K.Num → Bool
good_by_slots K words areas m = all_of (row_tests K words areas m)
