-- The table of givers' places, and what it tells of a tag.
use mathlib.Core.Path.{◌≡◌, refl}
use mathlib.Core.Bool.{Bool, true, false, cond, not, ◌&&◌}
use mathlib.Core.Logic.{⊎_elim}
use mathlib.Core.List.{List, [], ◌∷◌, map}
use Prim.Native.Nat.{ℕ, zero, suc, ◌+◌, ◌≤◌, ◌<◌}
use native.Mathlib.Omega.{arith}
use lib.Dec.{ltb, leb, eqb}
use lib.ListN.{length, get_or, set, get_or-map}
use borrow.Author.Tests.{ltb-true, ltb-false, eqb-true, lt-ltb, le-ltb, lt-leb, ne_eqb}
use Rattle.theory_machine.specs.Rows.{all_below}
use Rattle.theory_machine.specs.Tags.{first_buffer, last_buffer, first_station, last_station, buffer_count, station_count, Slot, neither, buffer, station, slot_of}
use Rattle.theory_machine.specs.Machine.{Buffer, free_buffer, waiting, full, Station, free_station, holding, done, buffer_place, station_place}
use Rattle.theory_machine.specs.GoodOrder.{nobody, is_some, before, buffer_giver, station_giver, giver_in, giver, place_below}
use Rattle.theory_machine.proofs.Rows.{bool_cases, above, all_below-at}
use Rattle.theory_machine.proofs.Tags.{SlotView, is-buffer, is-station, slot_view}
use Rattle.machine_parts.specs.declared.Buffer as code-buffer
use Rattle.machine_parts.specs.declared.BufferState.TheVariants as buffer-state
use Rattle.machine_parts.specs.declared.Station as code-station
use Rattle.machine_parts.specs.declared.StationState.TheVariants as station-state
use Rattle.machine_parts.specs.View.{view_buffer, view_station}
use Rattle.good_order.specs.SlotRules.{never, place_of, tags, place_table, place_in}
use Rattle.good_order.proofs.Loops.{viewed}

-- as the code lays it down: f has the buffers' places, and g the stations'
abbrev pub laid : (f g : ℕ → ℕ) → List ℕ
laid f g =
    never ∷ f 0 ∷ f 1 ∷ f 2 ∷ f 3 ∷ f 4 ∷ f 5 ∷ never ∷ g 0 ∷ g 1 ∷ g 2 ∷ g 3 ∷ g 4 ∷ []

-- the first n of them
abbrev pub first_places : (n : ℕ) (f : ℕ → ℕ) → ℕ → ℕ
first_places n f k = cond (ltb k n) (f k) never

module _ (f g : ℕ → ℕ) where
  pub next_buffer : (i : ℕ) → i < 6 → set (laid (first_places i f) g) (1 + i) (f i) ≡ laid (first_places (i + 1) f) g
  next_buffer zero h = refl
  next_buffer (suc zero) h = refl
  next_buffer (suc (suc zero)) h = refl
  next_buffer (suc (suc (suc zero))) h = refl
  next_buffer (suc (suc (suc (suc zero)))) h = refl
  next_buffer (suc (suc (suc (suc (suc zero))))) h = refl
  next_buffer (suc (suc (suc (suc (suc (suc i)))))) h = absurd (omega arith)

  pub next_station : (i : ℕ) → i < 5 → set (laid f (first_places i g)) (8 + i) (g i) ≡ laid f (first_places (i + 1) g)
  next_station zero h = refl
  next_station (suc zero) h = refl
  next_station (suc (suc zero)) h = refl
  next_station (suc (suc (suc zero))) h = refl
  next_station (suc (suc (suc (suc zero)))) h = refl
  next_station (suc (suc (suc (suc (suc i))))) h = absurd (omega arith)

abbrev pub buffer_entry : List code-buffer.Buffer → (i : ℕ) → ℕ
buffer_entry bs i = place_of (buffer_giver (view_buffer (get_or bs i (record { state = buffer-state.Free }))))

abbrev pub station_entry : List code-station.Station → (i : ℕ) → ℕ
station_entry ss i = place_of (station_giver (view_station (get_or ss i (record { state = station-state.Free }))))

pub table-laid : (bs : List code-buffer.Buffer) (ss : List code-station.Station)
    → laid (buffer_entry bs) (station_entry ss) ≡ place_table (map view_buffer bs) (map view_station ss)
unfolding giver slot_of
table-laid bs ss =
    let b : (i : ℕ) → get_or (map view_buffer bs) i free_buffer ≡ view_buffer (get_or bs i (record { state = buffer-state.Free })) =
    λ i. get_or-map view_buffer bs i (record { state = buffer-state.Free }) in
    let s : (i : ℕ) → get_or (map view_station ss) i free_station ≡ view_station (get_or ss i (record { state = station-state.Free })) =
    λ i. get_or-map view_station ss i (record { state = station-state.Free }) in
    rw (b 0, b 1, b 2, b 3, b 4, b 5, s 0, s 1, s 2, s 3, s 4)

module _ {A : Type 0} (bs : List (Buffer A)) (ss : List (Station A)) where
  past-tags : (t : ℕ) → last_station < t → giver bs ss t ≡ nobody
  unfolding giver slot_of
  past-tags t h = rw (above first_buffer last_buffer t (omega arith), above first_station last_station t h)

  -- read at a tag
  pub table-place : (t : ℕ) → place_in (place_table bs ss) t ≡ place_of (giver bs ss t)
  table-place t =
      ⊎_elim (λ (e : ltb last_station t ≡ true). rw (e, past-tags t (ltb-true last_station t e)))
      (λ (e : ltb last_station t ≡ false).
      let h : t < length tags = omega (arith, ltb-false last_station t e) in
      rw (e, viewed (λ u. place_of (giver bs ss u)) tags t 0 0 h, eqb-true (get_or tags t 0) t (all_below-at 13 (λ u. eqb (get_or tags u 0) u) refl t h)))
      (bool_cases (ltb last_station t))

  -- WHAT IT TELLS

  both : (b : Bool) → cond b false false ≡ false
  both true = refl
  both false = refl

  module _ (q : ℕ) (h : q < never) where
    held-buffer : (b : Buffer A) → leb (place_of (buffer_giver b)) q ≡ is_some (buffer_giver b) && before q (buffer_giver b)
    held-buffer free_buffer = lt-leb never q h
    held-buffer (waiting p c) = refl
    held-buffer (full p v) = refl

    held-station : (s : Station A) → ltb (place_of (station_giver s)) q ≡ is_some (station_giver s) && before q (station_giver s)
    held-station free_station = le-ltb never q (omega arith)
    held-station (holding p o x y) = refl
    held-station (done p v) = refl

    -- a tag held at place q
    pub held_place : (t : ℕ)
        → cond (ltb t first_station) (leb (place_of (giver bs ss t)) q) (ltb (place_of (giver bs ss t)) q)
        ≡ is_some (giver bs ss t) && before q (giver bs ss t)
    unfolding giver
    held_place t = go (slot_of t) (slot_view t)
      where
        go : (s : Slot) → SlotView t s
            → cond (ltb t first_station) (leb (place_of (giver_in bs ss s)) q) (ltb (place_of (giver_in bs ss s)) q)
            ≡ is_some (giver_in bs ss s) && before q (giver_in bs ss s)
        go neither v = rw (lt-leb never q h, le-ltb never q (omega arith)) (both (ltb t first_station))
        go (buffer i) (is-buffer b e) = rw (lt-ltb t first_station (omega arith)) (held-buffer (get_or bs i free_buffer))
        go (station i) (is-station b e) = rw (le-ltb t first_station (omega arith)) (held-station (get_or ss i free_station))

  module _ (n : ℕ) (h : n ≤ never) where
    apart-from-never : (p : ℕ) → ltb p n ≡ true → not (eqb p never) ≡ true
    apart-from-never p e = rw (ne_eqb p never (λ (z : p ≡ never). omega (arith, ltb-true p n e)))

    named-buffer : (b : Buffer A) → place_below n (buffer_place b) ≡ true → not (eqb (place_of (buffer_giver b)) never) ≡ is_some (buffer_giver b)
    named-buffer free_buffer e = refl
    named-buffer (waiting p c) e = apart-from-never p e
    named-buffer (full p v) e = apart-from-never p e

    named-station : (s : Station A) → place_below n (station_place s) ≡ true → not (eqb (place_of (station_giver s)) never) ≡ is_some (station_giver s)
    named-station free_station e = refl
    named-station (holding p o x y) e = apart-from-never p e
    named-station (done p v) e = apart-from-never p e

    -- a register's tag, where each held place is below n
    pub named-place : all_below buffer_count (λ i. place_below n (buffer_place (get_or bs i free_buffer))) ≡ true
        → all_below station_count (λ i. place_below n (station_place (get_or ss i free_station))) ≡ true
        → (t : ℕ) → not (eqb (place_of (giver bs ss t)) never) ≡ is_some (giver bs ss t)
    unfolding giver
    named-place f g t = go (slot_of t) (slot_view t)
      where
        go : (s : Slot) → SlotView t s → not (eqb (place_of (giver_in bs ss s)) never) ≡ is_some (giver_in bs ss s)
        go neither v = refl
        go (buffer i) (is-buffer b e) = named-buffer (get_or bs i free_buffer) (all_below-at buffer_count (λ i. place_below n (buffer_place (get_or bs i free_buffer))) f i b)
        go (station i) (is-station b e) = named-station (get_or ss i free_station) (all_below-at station_count (λ i. place_below n (station_place (get_or ss i free_station))) g i b)

  pub same_places : place_in (place_table bs ss) ≡ (λ t. place_of (giver bs ss t))
  same_places = λ k t. table-place t k
