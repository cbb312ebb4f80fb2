-- What each slot and each word weighs in the count of steps left: at most 5, and nothing exactly when it is free.
use mathlib.Core.Path.{◌≡◌, refl, sym, ◌∙◌}
use mathlib.Core.Bool.{Bool, true}
use mathlib.Core.List.{List, [], ◌∷◌}
use Prim.Native.Nat.{ℕ, zero, suc, ◌+◌, ◌*◌, ◌≤◌, ◌<◌}
use native.Mathlib.Nat.{not-suc-le-zero, le_of_suc-le-suc}
use native.Mathlib.Omega.{arith}
use lib.Dec.{eqb}
use lib.ListN.{length, get_or, drop, length-drop}
use lib.Ieee.{Float}
use borrow.Author.Tests.{eqb-true, eq-eqb, leb-true}
use Rattle.words.specs.declared.Areas.{Areas}
use Rattle.theory_machine.specs.Rows.{all_of, all_below, sum}
use Rattle.theory_machine.specs.Tags.{buffer_count, station_count, store_count}
use Rattle.theory_machine.specs.Instruction.{Instruction, no_instruction, load, store, copy, cell_arithmetic, register_arithmetic, decode}
use Rattle.theory_machine.specs.Machine.{Buffer, free_buffer, waiting, full, Station, free_station, holding, done, StoreBuffer, free_store, live, Machine, Shape, buffer_at, station_at, store_at, is_free_buffer, is_free_station, is_free_store}
use Rattle.theory_machine.specs.GoodOrder.{nothing_live, clauses, good_order}
use Rattle.theory_machine.specs.Entries.{entry_refusal}
use Rattle.theory_machine.specs.Binary64.{binary64}
use Rattle.theory_machine.specs.Count.{instruction_left, words_left, count_left, buffer_left, station_left, store_left}
use Rattle.theory_machine.proofs.Rows.{and_i, all_of-at, all_below-at, all_below_of}
use Rattle.theory_machine.proofs.Checks.{order_passed}
use Rattle.steps_left.specs.SlotsLeft.{SlotsLeft}
use Rattle.good_order.proofs.BySlots.{both_ways}
use Rattle.steps_left.proofs.Sums.{sum_bound}

pub instruction_weighs : (i : Instruction) → instruction_left i ≤ 5
instruction_weighs no_instruction = omega arith
instruction_weighs (load r c) = omega arith
instruction_weighs (store r c) = omega arith
instruction_weighs (copy r x) = omega arith
instruction_weighs (cell_arithmetic o r c) = omega arith
instruction_weighs (register_arithmetic o r x) = omega arith

-- the words from a place on
pub words_weigh : (next : ℕ) (words : List ℕ) → words_left (drop next words) ≤ 5 * length words
words_weigh next words =
    omega (arith, sum_bound (λ w. instruction_left (decode w)) (λ w. instruction_weighs (decode w)) (drop next words), length-drop next words)

-- a row weighs nothing exactly when each of its slots is free
module _ {B : Type 0} (w : B → ℕ) (free : B → Bool) (is : (b : B) → eqb (w b) 0 ≡ free b) (d : B) where
  none-at : (l : List B) → sum w l ≡ 0 → (i : ℕ) → i < length l → free (get_or l i d) ≡ true
  none-at [] e i h = absurd (not-suc-le-zero h)
  none-at (b ∷ l) e zero h = sym (is b) ∙ eq-eqb (w b) 0 (omega arith)
  none-at (b ∷ l) e (suc i) h = none-at l (omega arith) i (le_of_suc-le-suc h)

  none_of : (l : List B) → ((i : ℕ) → i < length l → free (get_or l i d) ≡ true) → sum w l ≡ 0
  none_of [] f = refl
  none_of (b ∷ l) f = omega (arith, eqb-true (w b) 0 (is b ∙ f 0 (omega arith)), none_of l (λ i h. f (suc i) (omega arith)))

  pub row_free : (n : ℕ) (l : List B) → length l ≡ n → sum w l ≡ 0 → all_below n (λ i. free (get_or l i d)) ≡ true
  row_free n l e z = all_below_of n (λ i. free (get_or l i d)) (λ i h. none-at l z i (omega arith))

  pub free_row : (n : ℕ) (l : List B) → length l ≡ n → all_below n (λ i. free (get_or l i d)) ≡ true → sum w l ≡ 0
  free_row n l e f = none_of l (λ i h. all_below-at n (λ i. free (get_or l i d)) f i (omega arith))

-- an accepted machine's next place is in the list
pub next_within : (words : List ℕ) (areas : Areas) (m : Machine Float) → entry_refusal binary64 words areas m ≡ 0 → m.next ≤ length words
unfolding good_order
next_within words areas m e = leb-true m.next (length words) (all_of-at (clauses binary64 words areas m) (order_passed binary64 words areas m e) 0)

module _ {A : Type 0} where
  pub buffer_weighs : (b : Buffer A) → buffer_left b ≤ 5
  buffer_weighs free_buffer = omega arith
  buffer_weighs (waiting p c) = omega arith
  buffer_weighs (full p v) = omega arith

  pub station_weighs : (s : Station A) → station_left s ≤ 5
  station_weighs free_station = omega arith
  station_weighs (holding p o x y) = omega arith
  station_weighs (done p v) = omega arith

  pub store_weighs : (s : StoreBuffer A) → store_left s ≤ 5
  store_weighs free_store = omega arith
  store_weighs (live p c x) = omega arith

  buffer-free : (b : Buffer A) → eqb (buffer_left b) 0 ≡ is_free_buffer b
  buffer-free free_buffer = refl
  buffer-free (waiting p c) = refl
  buffer-free (full p v) = refl

  station-free : (s : Station A) → eqb (station_left s) 0 ≡ is_free_station s
  station-free free_station = refl
  station-free (holding p o x y) = refl
  station-free (done p v) = refl

  store-free : (s : StoreBuffer A) → eqb (store_left s) 0 ≡ is_free_store s
  store-free free_store = refl
  store-free (live p c x) = refl

  abbrev live_tests : Machine A → List Bool
  live_tests m =
      all_below buffer_count (λ i. is_free_buffer (buffer_at m i))
      ∷ all_below station_count (λ i. is_free_station (station_at m i))
      ∷ all_below store_count (λ i. is_free_store (store_at m i))
      ∷ []

  pub record RowsWeigh (m : Machine A) : Type 0 where
    pub buffers : sum buffer_left m.buffers ≤ 30
    pub stations : sum station_left m.stations ≤ 25
    pub stores : sum store_left m.stores ≤ 15

  pub rows_weigh : (m : Machine A) → Shape m → RowsWeigh m
  rows_weigh m S = record {
    buffers = omega (arith, sum_bound buffer_left buffer_weighs m.buffers);
    stations = omega (arith, sum_bound station_left station_weighs m.stations);
    stores = omega (arith, sum_bound store_left store_weighs m.stores);
  }

  pub slots_left : (m : Machine A) (r : ℕ) → Shape m → r ≡ sum buffer_left m.buffers + sum station_left m.stations + sum store_left m.stores
      → SlotsLeft m r
  unfolding nothing_live
  slots_left m r S c = record {
    count = c;
    at_rest = both_ways (eqb r 0) (all_of (live_tests m)) (λ e. free (eqb-true r 0 e)) (λ e. none (all_of-at (live_tests m) e));
    small = omega (arith, rows_weigh m S);
  }
    where
      free : r ≡ 0 → all_of (live_tests m) ≡ true
      free z =
          and_i (row_free buffer_left is_free_buffer buffer-free free_buffer buffer_count m.buffers S.six_buffers (omega arith))
          (and_i (row_free station_left is_free_station station-free free_station station_count m.stations S.five_stations (omega arith))
          (and_i (row_free store_left is_free_store store-free free_store store_count m.stores S.three_stores (omega arith)) refl))

      none : ((k : ℕ) → get_or (live_tests m) k true ≡ true) → eqb r 0 ≡ true
      none t =
          eq-eqb r 0
          (omega (
            arith,
            free_row buffer_left is_free_buffer buffer-free free_buffer buffer_count m.buffers S.six_buffers (t 0),
            free_row station_left is_free_station station-free free_station station_count m.stations S.five_stations (t 1),
            free_row store_left is_free_store store-free free_store store_count m.stores S.three_stores (t 2),
          ))

  pub all_left : (words : List ℕ) (m : Machine A) {w r : ℕ} → w ≡ words_left (drop m.next words) → SlotsLeft m r → w + r ≡ count_left words m
  unfolding count_left
  all_left words m e s = omega (arith, s.count)
