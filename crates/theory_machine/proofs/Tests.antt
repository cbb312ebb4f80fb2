-- The tests of good order, at every index of every row.
use mathlib.Core.Path.{◌≡◌, refl}
use mathlib.Core.Bool.{Bool, true, ◌||◌}
use mathlib.Core.Option.{Option, none, some}
use Prim.Native.Nat.{ℕ}
use lib.Dec.{leb, eqb}
use lib.ListN.{length, get_or}
use Rattle.theory_machine.specs.Rows.{all_below}
use Rattle.theory_machine.specs.Tags.{register_count, buffer_count, station_count, store_count}
use Rattle.theory_machine.specs.Machine.{Kind, Lent, areas_of, num, Buffer, free_buffer, Station, free_station, StoreBuffer, free_store, Machine, Shape, buffer_at, station_at, store_at, register_at, buffer_place, station_place, store_place, buffer_cell, store_cell}
use Rattle.theory_machine.specs.GoodOrder.{place_below, cell_in, apart, named, station_named, store_named, station_held, store_held, kind_fits, place_tests, name_tests, before_tests, cell_tests, clauses, good_order}
use Rattle.theory_machine.specs.Steps.{in_order}
use Rattle.theory_machine.proofs.Rows.{and_i, or_i, all_of-at, all_below_of, row_of}

module _ (K : Kind) (L : Lent K.Num) (m : Machine K.Num) where
  abbrev n : ℕ
  n = m.next

  pub record Tests : Type 0 where
    pub next : leb n (length L.words) ≡ true
    pub buffer_places : (i : ℕ) → place_below n (buffer_place (buffer_at m i)) ≡ true
    pub station_places : (i : ℕ) → place_below n (station_place (station_at m i)) ≡ true
    pub store_places : (i : ℕ) → place_below n (store_place (store_at m i)) ≡ true
    pub registers_named : (i : ℕ) → named m (register_at K m i) ≡ true
    pub stations_named : (i : ℕ) → station_named m (station_at m i) ≡ true
    pub stores_named : (i : ℕ) → store_named m (store_at m i) ≡ true
    pub stations_held : (i : ℕ) → station_held m (station_at m i) ≡ true
    pub stores_held : (i : ℕ) → store_held m (store_at m i) ≡ true
    pub kinds : (i : ℕ) → kind_fits i (station_at m i) ≡ true
    pub buffer_cells : (i : ℕ) → cell_in (length L.operands) (buffer_cell (buffer_at m i)) ≡ true
    pub store_cells : (i : ℕ) → cell_in L.results (store_cell (store_at m i)) ≡ true
    pub stores_apart : (i j : ℕ) → eqb i j || apart (store_cell (store_at m i)) (store_cell (store_at m j)) ≡ true

  module _ (S : Shape m) where
    abbrev buffers_pass : (p : ℕ → Buffer K.Num → Bool) → ((i : ℕ) → p i free_buffer ≡ true) → all_below buffer_count (λ i. p i (buffer_at m i)) ≡ true
        → (i : ℕ) → p i (buffer_at m i) ≡ true
    buffers_pass p = row_of p free_buffer m.buffers buffer_count S.six_buffers

    abbrev stations_pass : (p : ℕ → Station K.Num → Bool) → ((i : ℕ) → p i free_station ≡ true) → all_below station_count (λ i. p i (station_at m i)) ≡ true
        → (i : ℕ) → p i (station_at m i) ≡ true
    stations_pass p = row_of p free_station m.stations station_count S.five_stations

    abbrev stores_pass : (p : ℕ → StoreBuffer K.Num → Bool) → ((i : ℕ) → p i free_store ≡ true) → all_below store_count (λ i. p i (store_at m i)) ≡ true
        → (i : ℕ) → p i (store_at m i) ≡ true
    stores_pass p = row_of p free_store m.stores store_count S.three_stores

    apart-free : (i j : ℕ) (a : Option ℕ) → eqb i j || apart a none ≡ true
    apart-free i j none = or_i (eqb i j) true (λ _. refl)
    apart-free i j (some c) = or_i (eqb i j) true (λ _. refl)

    pub tests_of : in_order K L m ≡ true → Tests
    unfolding good_order
    tests_of e =
        let t : (k : ℕ) → get_or (clauses K L.words (areas_of L) m) k true ≡ true =
        all_of-at (clauses K L.words (areas_of L) m) e in
        let place = all_of-at (place_tests K m) (t 1) in
        let name = all_of-at (name_tests K m) (t 2) in
        let held = all_of-at (before_tests K m) (t 3) in
        let cells = all_of-at (cell_tests K (areas_of L) m) (t 5) in
        record {
          next = t 0;
          buffer_places = buffers_pass (λ i b. place_below n (buffer_place b)) (λ i. refl) (place 0);
          station_places = stations_pass (λ i s. place_below n (station_place s)) (λ i. refl) (place 1);
          store_places = stores_pass (λ i s. place_below n (store_place s)) (λ i. refl) (place 2);
          registers_named = row_of (λ i o. named m o) (num K.nought) m.registers register_count S.four_registers (λ i. refl) (name 0);
          stations_named = stations_pass (λ i s. station_named m s) (λ i. refl) (name 1);
          stores_named = stores_pass (λ i s. store_named m s) (λ i. refl) (name 2);
          stations_held = stations_pass (λ i s. station_held m s) (λ i. refl) (held 0);
          stores_held = stores_pass (λ i s. store_held m s) (λ i. refl) (held 1);
          kinds = stations_pass (λ i s. kind_fits i s) (λ i. refl) (t 4);
          buffer_cells = buffers_pass (λ i b. cell_in (length L.operands) (buffer_cell b)) (λ i. refl) (cells 0);
          store_cells = stores_pass (λ i s. cell_in L.results (store_cell s)) (λ i. refl) (cells 1);
          stores_apart = λ i j.
              stores_pass (λ j s. eqb i j || apart (store_cell (store_at m i)) (store_cell s)) (λ j. apart-free i j (store_cell (store_at m i)))
              (stores_pass (λ i x. all_below store_count (λ j. eqb i j || apart (store_cell x) (store_cell (store_at m j))))
              (λ i. all_below_of store_count (λ j. eqb i j || true) (λ j _. or_i (eqb i j) true (λ _. refl))) (t 6) i) j;
        }

  pub of_tests : Tests → in_order K L m ≡ true
  unfolding good_order
  of_tests t =
      let all : (k : ℕ) (p : ℕ → Bool) → ((i : ℕ) → p i ≡ true) → all_below k p ≡ true = λ k p f. all_below_of k p (λ i _. f i) in
      and_i t.next
      (and_i (and_i (all buffer_count (λ i. place_below n (buffer_place (buffer_at m i))) t.buffer_places)
      (and_i (all station_count (λ i. place_below n (station_place (station_at m i))) t.station_places)
      (and_i (all store_count (λ i. place_below n (store_place (store_at m i))) t.store_places) refl)))
      (and_i (and_i (all register_count (λ i. named m (register_at K m i)) t.registers_named)
      (and_i (all station_count (λ i. station_named m (station_at m i)) t.stations_named)
      (and_i (all store_count (λ i. store_named m (store_at m i)) t.stores_named) refl)))
      (and_i (and_i (all station_count (λ i. station_held m (station_at m i)) t.stations_held)
      (and_i (all store_count (λ i. store_held m (store_at m i)) t.stores_held) refl))
      (and_i (all station_count (λ i. kind_fits i (station_at m i)) t.kinds)
      (and_i (and_i (all buffer_count (λ i. cell_in (length L.operands) (buffer_cell (buffer_at m i))) t.buffer_cells)
      (and_i (all store_count (λ i. cell_in L.results (store_cell (store_at m i))) t.store_cells) refl))
      (and_i (all store_count (λ i. all_below store_count (λ j. eqb i j || apart (store_cell (store_at m i)) (store_cell (store_at m j))))
      (λ i. all store_count (λ j. eqb i j || apart (store_cell (store_at m i)) (store_cell (store_at m j))) (t.stores_apart i))) refl))))))
