-- Good order slot by slot is good order clause by clause.
use mathlib.Core.Path.{◌≡◌, refl, sym, ◌∙◌}
use mathlib.Core.Bool.{Bool, true, false, not, ◌&&◌}
use mathlib.Core.Logic.{⊎_elim}
use mathlib.Core.List.{List, [], ◌∷◌, map}
use Prim.Native.Nat.{ℕ, zero, suc, ◌≤◌, ◌<◌}
use native.Mathlib.Omega.{arith}
use lib.Dec.{ltb, leb, eqb}
use lib.ListN.{length, get_or}
use borrow.Author.Tests.{ltb-true, leb-true}
use Rattle.words.specs.declared.Areas.{Areas}
use Rattle.words.specs.Instructions.{is_cell}
use Rattle.theory_machine.specs.Rows.{all_of, all_below}
use Rattle.theory_machine.specs.Tags.{register_count, buffer_count, station_count, store_count, suits}
use Rattle.theory_machine.specs.Machine.{Kind, Operand, num, tag, Buffer, free_buffer, waiting, full, Station, free_station, holding, done, StoreBuffer, free_store, live, Machine, buffer_at, station_at, store_at, register_at, buffer_place, station_place, store_place, buffer_cell, store_cell}
use Rattle.theory_machine.specs.GoodOrder.{is_some, giver_of, place_below, cell_in, named, station_named, store_named, held_at, station_held, store_held, kind_fits, place_tests, name_tests, before_tests, cell_tests, clauses, stores_apart, good_order}
use Rattle.theory_machine.proofs.Rows.{bool_cases, and_i, all_of-at}
use Rattle.good_order.specs.SlotRules.{never, giver_place, register_good, operand_good, buffer_good, station_good, store_good, buffers_good, stations_good, registers_good, stores_good, row_tests, good_by_slots}
use Rattle.good_order.proofs.Placed.{held_place, named-place}

-- TESTS

-- two tests that hold together are equal
pub both_ways : (a b : Bool) → (a ≡ true → b ≡ true) → (b ≡ true → a ≡ true) → a ≡ b
both_ways true b f g = sym (f refl)
both_ways false true f g = g refl
both_ways false false f g = refl

pub and_true : (a : Bool) → a && true ≡ a
and_true true = refl
and_true false = refl

and_swap : (a b c d : Bool) → (a && b) && (c && d) ≡ (a && c) && (b && d)
and_swap true true c d = refl
and_swap true false true d = refl
and_swap true false false d = refl
and_swap false b c d = refl

below_and : (n : ℕ) (p q : ℕ → Bool) → all_below n (λ i. p i && q i) ≡ all_below n p && all_below n q
below_and zero p q = refl
below_and (suc n) p q = rw (below_and n p q) (and_swap (p n) (q n) (all_below n p) (all_below n q))

below_same : (n : ℕ) (p q : ℕ → Bool) → ((i : ℕ) → p i ≡ q i) → all_below n p ≡ all_below n q
below_same zero p q h = refl
below_same (suc n) p q h = rw (h n, below_same n p q h)

below_true : (n : ℕ) → all_below n (λ i. true) ≡ true
below_true zero = refl
below_true (suc n) = below_true n

one_fails : (l : List Bool) (k : ℕ) → get_or l k true ≡ false → all_of l ≡ false
one_fails [] k e = e
one_fails (b ∷ bs) zero e = rw e
one_fails (true ∷ bs) (suc k) e = one_fails bs k e
one_fails (false ∷ bs) (suc k) e = refl

-- several tests of each index
abbrev at : (i : ℕ) → List (ℕ → Bool) → List Bool
at i ps = map (λ p. p i) ps

below_all : (n : ℕ) (ps : List (ℕ → Bool)) → all_below n (λ i. all_of (at i ps)) ≡ all_of (map (all_below n) ps)
below_all n [] = below_true n
below_all n (p ∷ ps) = rw (below_and n p (λ i. all_of (at i ps)), below_all n ps)

-- a test of each index that is several at once
in_rows : (n : ℕ) (r : ℕ → Bool) (ps : List (ℕ → Bool)) → ((i : ℕ) → r i ≡ all_of (at i ps)) → all_below n r ≡ all_of (map (all_below n) ps)
in_rows n r ps h = below_same n r (λ i. all_of (at i ps)) h ∙ below_all n ps

-- ONE SLOT: all its rules at once, and each in its clause

module _ {A : Type 0} (m : Machine A) where
  register-rules : (o : Operand A) → ((t : ℕ) → not (eqb (giver_place m t) never) ≡ is_some (giver_of m t)) → register_good (giver_place m) o ≡ named m o
  register-rules (num x) h = refl
  register-rules (tag t) h = h t

  operand-rules : (q : ℕ) (o : Operand A) → q < never → operand_good (giver_place m) q o ≡ named m o && held_at m q o
  operand-rules q (num x) h = refl
  operand-rules q (tag t) h = held_place m.buffers m.stations q h t

  abbrev buffer_rules : (next operands : ℕ) → Buffer A → List Bool
  buffer_rules next operands b = place_below next (buffer_place b) ∷ cell_in operands (buffer_cell b) ∷ []

  buffer-rules : (next operands : ℕ) (b : Buffer A) → buffer_good next operands b ≡ all_of (buffer_rules next operands b)
  buffer-rules next operands free_buffer = refl
  buffer-rules next operands (waiting p c) = rw (and_true (is_cell operands c))
  buffer-rules next operands (full p v) = sym (and_true (ltb p next))

  abbrev station_rules : (next i : ℕ) → Station A → List Bool
  station_rules next i s = place_below next (station_place s) ∷ kind_fits i s ∷ station_named m s ∷ station_held m s ∷ []

  -- of a slot at place p, where p is below next, and next no more than never
  slot-rules : (next p : ℕ) (a b : Bool) → next ≤ never → (p < never → a ≡ b) → ltb p next && a ≡ ltb p next && b
  slot-rules next p a b s h =
      ⊎_elim (λ (e : ltb p next ≡ true). rw (h (omega (arith, ltb-true p next e)))) (λ (e : ltb p next ≡ false). rw e) (bool_cases (ltb p next))

  station-rules : (next i : ℕ) (s : Station A) → next ≤ never → station_good (giver_place m) next i s ≡ all_of (station_rules next i s)
  station-rules next i free_station h = refl
  station-rules next i (holding p o x y) h =
      slot-rules next p (suits i o && (operand_good (giver_place m) p x && operand_good (giver_place m) p y))
      (suits i o && ((named m x && named m y) && ((held_at m p x && held_at m p y) && true))) h
      (λ k.
      rw (
        operand-rules p x k,
        operand-rules p y k,
        and_swap (named m x) (held_at m p x) (named m y) (held_at m p y),
        and_true (held_at m p x && held_at m p y),
      ))
  station-rules next i (done p v) h = sym (and_true (ltb p next))

  abbrev store_rules : (next results : ℕ) → StoreBuffer A → List Bool
  store_rules next results s = place_below next (store_place s) ∷ cell_in results (store_cell s) ∷ store_named m s ∷ store_held m s ∷ []

  store-rules : (next results : ℕ) (s : StoreBuffer A) → next ≤ never → store_good (giver_place m) next results s ≡ all_of (store_rules next results s)
  store-rules next results free_store h = refl
  store-rules next results (live p c x) h =
      slot-rules next p (is_cell results c && operand_good (giver_place m) p x) (is_cell results c && (named m x && (held_at m p x && true))) h
      (λ k. rw (operand-rules p x k, and_true (held_at m p x)))

-- THE MACHINE, of which the list is no longer than never
module _ (K : Kind) (words : List ℕ) (areas : Areas) (m : Machine K.Num) (short : length words ≤ never) where
  abbrev n : ℕ
  n = m.next

  -- each clause, row by row
  record Rules : Type 0 where
    pub next : leb n (length words) ≡ true
    pub buffer_places : all_below buffer_count (λ i. place_below n (buffer_place (buffer_at m i))) ≡ true
    pub station_places : all_below station_count (λ i. place_below n (station_place (station_at m i))) ≡ true
    pub store_places : all_below store_count (λ i. place_below n (store_place (store_at m i))) ≡ true
    pub registers_named : all_below register_count (λ i. named m (register_at K m i)) ≡ true
    pub stations_named : all_below station_count (λ i. station_named m (station_at m i)) ≡ true
    pub stores_named : all_below store_count (λ i. store_named m (store_at m i)) ≡ true
    pub stations_held : all_below station_count (λ i. station_held m (station_at m i)) ≡ true
    pub stores_held : all_below store_count (λ i. store_held m (store_at m i)) ≡ true
    pub kinds : all_below station_count (λ i. kind_fits i (station_at m i)) ≡ true
    pub buffer_cells : all_below buffer_count (λ i. cell_in areas.operands (buffer_cell (buffer_at m i))) ≡ true
    pub store_cells : all_below store_count (λ i. cell_in areas.results (store_cell (store_at m i))) ≡ true
    pub apart : stores_apart K m ≡ true

  of-clauses : good_order K words areas m ≡ true → Rules
  unfolding good_order
  of-clauses e =
      let t : (k : ℕ) → get_or (clauses K words areas m) k true ≡ true = all_of-at (clauses K words areas m) e in
      let place = all_of-at (place_tests K m) (t 1) in
      let name = all_of-at (name_tests K m) (t 2) in
      let held = all_of-at (before_tests K m) (t 3) in
      let cells = all_of-at (cell_tests K areas m) (t 5) in
      record {
        next = t 0;
        buffer_places = place 0;
        station_places = place 1;
        store_places = place 2;
        registers_named = name 0;
        stations_named = name 1;
        stores_named = name 2;
        stations_held = held 0;
        stores_held = held 1;
        kinds = t 4;
        buffer_cells = cells 0;
        store_cells = cells 1;
        apart = t 6;
      }

  to-clauses : Rules → good_order K words areas m ≡ true
  unfolding good_order
  to-clauses r =
      and_i r.next
      (and_i (and_i r.buffer_places (and_i r.station_places (and_i r.store_places refl)))
      (and_i (and_i r.registers_named (and_i r.stations_named (and_i r.stores_named refl)))
      (and_i (and_i r.stations_held (and_i r.stores_held refl))
      (and_i r.kinds
      (and_i (and_i r.buffer_cells (and_i r.store_cells refl))
      (and_i r.apart refl))))))

  -- each row, by its rules
  abbrev buffer_tests : List (ℕ → Bool)
  buffer_tests = (λ i. place_below n (buffer_place (buffer_at m i))) ∷ (λ i. cell_in areas.operands (buffer_cell (buffer_at m i))) ∷ []

  abbrev station_tests : List (ℕ → Bool)
  station_tests =
      (λ i. place_below n (station_place (station_at m i)))
      ∷ (λ i. kind_fits i (station_at m i))
      ∷ (λ i. station_named m (station_at m i))
      ∷ (λ i. station_held m (station_at m i))
      ∷ []

  abbrev store_tests : List (ℕ → Bool)
  store_tests =
      (λ i. place_below n (store_place (store_at m i)))
      ∷ (λ i. cell_in areas.results (store_cell (store_at m i)))
      ∷ (λ i. store_named m (store_at m i))
      ∷ (λ i. store_held m (store_at m i))
      ∷ []

  buffers-row : buffers_good n areas.operands m.buffers ≡ all_of (map (all_below buffer_count) buffer_tests)
  buffers-row = in_rows buffer_count (λ i. buffer_good n areas.operands (buffer_at m i)) buffer_tests (λ i. buffer-rules m n areas.operands (buffer_at m i))

  module _ (h : leb n (length words) ≡ true) where
    low : n ≤ never
    low = omega (arith, leb-true n (length words) h)

    stations-row : stations_good (giver_place m) n m.stations ≡ all_of (map (all_below station_count) station_tests)
    stations-row =
        in_rows station_count (λ i. station_good (giver_place m) n i (station_at m i)) station_tests (λ i. station-rules m n i (station_at m i) low)

    stores_row : stores_good (giver_place m) n areas.results m.stores ≡ all_of (map (all_below store_count) store_tests)
    stores_row =
        in_rows store_count (λ i. store_good (giver_place m) n areas.results (store_at m i)) store_tests (λ i. store-rules m n areas.results (store_at m i) low)

    registers-row : all_below buffer_count (λ i. place_below n (buffer_place (buffer_at m i))) ≡ true
        → all_below station_count (λ i. place_below n (station_place (station_at m i))) ≡ true
        → registers_good (giver_place m) K.nought m.registers ≡ all_below register_count (λ i. named m (register_at K m i))
    registers-row b s =
        below_same register_count (λ i. register_good (giver_place m) (register_at K m i)) (λ i. named m (register_at K m i))
        (λ i. register-rules m (register_at K m i) (named-place m.buffers m.stations n low b s))

  of_slots : good_by_slots K words areas m ≡ true → Rules
  of_slots e =
      let t : (k : ℕ) → get_or (row_tests K words areas m) k true ≡ true = all_of-at (row_tests K words areas m) e in
      let buffer = all_of-at (map (all_below buffer_count) buffer_tests) (sym buffers-row ∙ t 1) in
      let station = all_of-at (map (all_below station_count) station_tests) (sym (stations-row (t 0)) ∙ t 2) in
      let store = all_of-at (map (all_below store_count) store_tests) (sym (stores_row (t 0)) ∙ t 4) in
      record {
        next = t 0;
        buffer_places = buffer 0;
        station_places = station 0;
        store_places = store 0;
        registers_named = sym (registers-row (t 0) (buffer 0) (station 0)) ∙ t 3;
        stations_named = station 2;
        stores_named = store 2;
        stations_held = station 3;
        stores_held = store 3;
        kinds = station 1;
        buffer_cells = buffer 1;
        store_cells = store 1;
        apart = t 5;
      }

  to_slots : Rules → good_by_slots K words areas m ≡ true
  to_slots r =
      and_i r.next
      (and_i (buffers-row ∙ and_i r.buffer_places (and_i r.buffer_cells refl))
      (and_i (stations-row r.next ∙ and_i r.station_places (and_i r.kinds (and_i r.stations_named (and_i r.stations_held refl))))
      (and_i (registers-row r.next r.buffer_places r.station_places ∙ r.registers_named)
      (and_i (stores_row r.next ∙ and_i r.store_places (and_i r.store_cells (and_i r.stores_named (and_i r.stores_held refl))))
      (and_i r.apart refl)))))

  pub by_slots : good_order K words areas m ≡ good_by_slots K words areas m
  by_slots =
      both_ways (good_order K words areas m) (good_by_slots K words areas m)
      (λ e. to_slots (of-clauses e)) (λ e. to-clauses (of_slots e))

  -- one row that fails
  pub row_fails : (k : ℕ) → get_or (row_tests K words areas m) k true ≡ false → false ≡ good_order K words areas m
  row_fails k e = sym (by_slots ∙ one_fails (row_tests K words areas m) k e)
