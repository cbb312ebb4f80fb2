-- From the tests of good order to the facts that they stand for, and back.
use mathlib.Core.Path.{◌≡◌, refl, ap}
use mathlib.Core.Bool.{true, not}
use mathlib.Core.Option.{Option, none, some}
use mathlib.Core.Logic.{◌≢◌}
use mathlib.Core.List.{List}
use Prim.Native.Nat.{ℕ, ◌≤◌, ◌<◌}
use native.Mathlib.Omega.{arith}
use lib.Dec.{eqb}
use lib.ListN.{length, get_or}
use borrow.Author.Tests.{ltb-true, leb-true, eqb-false, not-true, lt-ltb, le-leb, ne_eqb}
use Rattle.words.specs.Instructions.{is_cell}
use Rattle.theory_machine.specs.Tags.{Slot, neither, buffer, station, slot_of, suits}
use Rattle.theory_machine.specs.Machine.{Kind, Lent, Operand, num, tag, Buffer, free_buffer, waiting, full, Station, free_station, holding, done, StoreBuffer, free_store, live, Machine, Shape, buffer_at, station_at, store_at, register_at, buffer_place, station_place, store_place, buffer_cell, store_cell}
use Rattle.theory_machine.specs.GoodOrder.{Giver, nobody, from_buffer, from_station, is_some, buffer_giver, station_giver, giver_in, giver, giver_of, place_below, cell_in, apart, before, named, station_named, store_named, held_at, station_held, store_held, kind_fits}
use Rattle.theory_machine.specs.Steps.{in_order}
use Rattle.theory_machine.proofs.Rows.{and_l, and_r, and_i, or_r, or_i, absurd_bool}
use Rattle.theory_machine.proofs.Holds.{Names, names_some, Holder, register, sink, source, stored, Reading, Held, BufferOk, StationOk, StoreOk, Inv}
use Rattle.theory_machine.proofs.Tests.{Tests, tests_of, of_tests}

-- no two live store buffers have the same cell
abbrev pub Distinct : {A : Type 0} → List (StoreBuffer A) → Type 0
Distinct ts = (i j c : ℕ) → i ≢ j → store_cell (get_or ts i free_store) ≡ some c → store_cell (get_or ts j free_store) ≡ some c → ⊥

-- the place at which an operand is held, n for a register
abbrev pub seat : (n : ℕ) → Holder → ℕ
seat n (register i) = n
seat n (sink p) = p
seat n (source p) = p
seat n (stored p) = p

module _ (K : Kind) (L : Lent K.Num) where
  -- the reading: n is the next place
  abbrev pub orderly : (n : ℕ) → Reading K.Num
  orderly n = record {
    on_giver = λ h g. before (seat n h) g ≡ true;
    on_number = λ h u. Unit;
    waiting_ok = λ p c. (p < n) × (is_cell (length L.operands) c ≡ true);
    full_ok = λ p v. p < n;
    holding_ok = λ i p o. (p < n) × (suits i o ≡ true);
    done_ok = λ p v. p < n;
    live_ok = λ p c. (p < n) × (is_cell L.results c ≡ true);
  }

  pub record Good (m : Machine K.Num) : Type 0 where
    pub fits : m.next ≤ length L.words
    pub inv : Inv K (orderly m.next) m
    pub distinct : Distinct m.stores

  module _ (m : Machine K.Num) (S : Shape m) where
    abbrev n : ℕ
    n = m.next

    -- ONE OPERAND: it names somebody, and that somebody stands before its place
    held_of : (h : Holder) (o : Operand K.Num) → named m o ≡ true → held_at m (seat n h) o ≡ true → Held (orderly n) (giver_of m) h o
    held_of h (num x) e f = tt
    held_of h (tag t) e f = go (giver_of m t) e f
      where
        go : (g : Giver) → is_some g ≡ true → before (seat n h) g ≡ true → Names (λ g. before (seat n h) g ≡ true) g
        go nobody e f = absurd_bool e refl
        go (from_buffer p) e f = f
        go (from_station p) e f = f

    of-named : (h : Holder) (o : Operand K.Num) → Held (orderly n) (giver_of m) h o → named m o ≡ true
    of-named h (num x) k = refl
    of-named h (tag t) k = names_some (λ g. before (seat n h) g ≡ true) (giver_of m t) k

    of-held : (h : Holder) (o : Operand K.Num) → Held (orderly n) (giver_of m) h o → held_at m (seat n h) o ≡ true
    of-held h (num x) k = refl
    of-held h (tag t) k = go (giver_of m t) k
      where
        go : (g : Giver) → Names (λ g. before (seat n h) g ≡ true) g → before (seat n h) g ≡ true
        go nobody k = absurd k
        go (from_buffer p) k = k
        go (from_station p) k = k

    -- ONE SLOT

    buffer-of : (b : Buffer K.Num) → place_below n (buffer_place b) ≡ true → cell_in (length L.operands) (buffer_cell b) ≡ true → BufferOk (orderly n) b
    buffer-of free_buffer e f = tt
    buffer-of (waiting p c) e f = (ltb-true p n e, f)
    buffer-of (full p v) e f = ltb-true p n e

    station-of : (i : ℕ) (s : Station K.Num) → place_below n (station_place s) ≡ true → station_named m s ≡ true → station_held m s ≡ true
        → kind_fits i s ≡ true → StationOk (orderly n) (giver_of m) i s
    station-of i free_station e f g k = tt
    station-of i (holding p o x y) e f g k = (
      (ltb-true p n e, k),
      held_of (sink p) x (and_l (named m x) (named m y) f) (and_l (held_at m p x) (held_at m p y) g),
      held_of (source p) y (and_r (named m x) (named m y) f) (and_r (held_at m p x) (held_at m p y) g),
    )
    station-of i (done p v) e f g k = ltb-true p n e

    store_of : (s : StoreBuffer K.Num) → place_below n (store_place s) ≡ true → store_named m s ≡ true → store_held m s ≡ true
        → cell_in L.results (store_cell s) ≡ true → StoreOk (orderly n) (giver_of m) s
    store_of free_store e f g k = tt
    store_of (live p c x) e f g k = ((ltb-true p n e, k), held_of (stored p) x f g)

    -- a giver that is somebody stands before the next place
    giver-before : ((i : ℕ) → place_below n (buffer_place (buffer_at m i)) ≡ true) → ((i : ℕ) → place_below n (station_place (station_at m i)) ≡ true)
        → (t : ℕ) → before n (giver_of m t) ≡ true
    unfolding giver
    giver-before bs ss t = go (slot_of t)
      where
        b-go : (b : Buffer K.Num) → place_below n (buffer_place b) ≡ true → before n (buffer_giver b) ≡ true
        b-go free_buffer e = refl
        b-go (waiting p c) e = le-leb p n (omega (arith, ltb-true p n e))
        b-go (full p v) e = le-leb p n (omega (arith, ltb-true p n e))

        s-go : (s : Station K.Num) → place_below n (station_place s) ≡ true → before n (station_giver s) ≡ true
        s-go free_station e = refl
        s-go (holding p o x y) e = e
        s-go (done p v) e = e

        go : (s : Slot) → before n (giver_in m.buffers m.stations s) ≡ true
        go neither = refl
        go (buffer i) = b-go (buffer_at m i) (bs i)
        go (station i) = s-go (station_at m i) (ss i)

    register-held : ((t : ℕ) → before n (giver_of m t) ≡ true) → (o : Operand K.Num) → held_at m n o ≡ true
    register-held f (num x) = refl
    register-held f (tag t) = f t

    apart_of : (a b : Option ℕ) → apart a b ≡ true → (c : ℕ) → a ≡ some c → b ≡ some c → ⊥
    apart_of none b e c p q = let z : ◌≡◌ {A = ℕ} 0 1 = cc in omega arith
    apart_of (some k) none e c p q = let z : ◌≡◌ {A = ℕ} 0 1 = cc in omega arith
    apart_of (some k) (some l) e c p q = eqb-false l k (not-true (eqb l k) e) (cc)

    of-apart : (a b : Option ℕ) → ((c : ℕ) → a ≡ some c → b ≡ some c → ⊥) → apart a b ≡ true
    of-apart none b f = refl
    of-apart (some k) none f = refl
    of-apart (some k) (some l) f = ap not (ne_eqb l k (λ (e : l ≡ k). f k refl (rw e)))

    pub good_of : in_order K L m ≡ true → Good m
    good_of e =
        let t : Tests K L m = tests_of K L m S e in
        record {
          fits = leb-true n (length L.words) t.next;
          inv = record {
            registers = λ i. held_of (register i) (register_at K m i) (t.registers_named i)
                (register-held (giver-before t.buffer_places t.station_places) (register_at K m i));
            buffers = λ i. buffer-of (buffer_at m i) (t.buffer_places i) (t.buffer_cells i);
            stations = λ i. station-of i (station_at m i) (t.station_places i) (t.stations_named i) (t.stations_held i) (t.kinds i);
            stores = λ i. store_of (store_at m i) (t.store_places i) (t.stores_named i) (t.stores_held i) (t.store_cells i);
          };
          distinct = λ i j c d. apart_of (store_cell (store_at m i)) (store_cell (store_at m j))
              (or_r (eqb i j) (apart (store_cell (store_at m i)) (store_cell (store_at m j))) (t.stores_apart i j) (ne_eqb i j d)) c;
        }

    -- AND BACK

    record StationPasses (i : ℕ) (s : Station K.Num) : Type 0 where
      places : place_below n (station_place s) ≡ true
      names : station_named m s ≡ true
      held : station_held m s ≡ true
      kinds : kind_fits i s ≡ true

    of-station : (i : ℕ) (s : Station K.Num) → StationOk (orderly n) (giver_of m) i s → StationPasses i s
    of-station i free_station k = record { places = refl; names = refl; held = refl; kinds = refl }
    of-station i (holding p o x y) k = record {
      places = lt-ltb p n k.0.0;
      names = and_i (of-named (sink p) x k.1) (of-named (source p) y k.2);
      held = and_i (of-held (sink p) x k.1) (of-held (source p) y k.2);
      kinds = k.0.1;
    }
    of-station i (done p v) k = record { places = lt-ltb p n k; names = refl; held = refl; kinds = refl }

    record StorePasses (s : StoreBuffer K.Num) : Type 0 where
      places : place_below n (store_place s) ≡ true
      names : store_named m s ≡ true
      held : store_held m s ≡ true
      cells : cell_in L.results (store_cell s) ≡ true

    of-store : (s : StoreBuffer K.Num) → StoreOk (orderly n) (giver_of m) s → StorePasses s
    of-store free_store k = record { places = refl; names = refl; held = refl; cells = refl }
    of-store (live p c x) k =
        record { places = lt-ltb p n k.0.0; names = of-named (stored p) x k.1; held = of-held (stored p) x k.1; cells = k.0.1 }

    record BufferPasses (b : Buffer K.Num) : Type 0 where
      places : place_below n (buffer_place b) ≡ true
      cells : cell_in (length L.operands) (buffer_cell b) ≡ true

    of-buffer : (b : Buffer K.Num) → BufferOk (orderly n) b → BufferPasses b
    of-buffer free_buffer k = record { places = refl; cells = refl }
    of-buffer (waiting p c) k = record { places = lt-ltb p n k.0; cells = k.1 }
    of-buffer (full p v) k = record { places = lt-ltb p n k; cells = refl }

    pub of_good : Good m → in_order K L m ≡ true
    of_good g =
        let bs : (i : ℕ) → BufferPasses (buffer_at m i) = λ i. of-buffer (buffer_at m i) (g.inv.buffers i) in
        let ss : (i : ℕ) → StationPasses i (station_at m i) = λ i. of-station i (station_at m i) (g.inv.stations i) in
        let ts : (i : ℕ) → StorePasses (store_at m i) = λ i. of-store (store_at m i) (g.inv.stores i) in
        of_tests K L m (record {
          next = le-leb n (length L.words) g.fits;
          buffer_places = λ i. (bs i).places;
          station_places = λ i. (ss i).places;
          store_places = λ i. (ts i).places;
          registers_named = λ i. of-named (register i) (register_at K m i) (g.inv.registers i);
          stations_named = λ i. (ss i).names;
          stores_named = λ i. (ts i).names;
          stations_held = λ i. (ss i).held;
          stores_held = λ i. (ts i).held;
          kinds = λ i. (ss i).kinds;
          buffer_cells = λ i. (bs i).cells;
          store_cells = λ i. (ts i).cells;
          stores_apart = λ i j. or_i (eqb i j) (apart (store_cell (store_at m i)) (store_cell (store_at m j)))
              (λ d. of-apart (store_cell (store_at m i)) (store_cell (store_at m j)) (λ c. g.distinct i j c (eqb-false i j d)));
        })
