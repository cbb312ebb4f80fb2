-- An issue keeps the invariant, over any reading: what the operands at the next place ask for is met by the slots that the issue takes.
use mathlib.Core.Path.{◌≡◌, refl}
use mathlib.Core.Bool.{true}
use mathlib.Core.Option.{some}
use mathlib.Core.Logic.{◌≢◌}
use mathlib.Core.List.{List}
use Prim.Native.Nat.{ℕ, ◌<◌}
use native.Mathlib.Omega.{arith}
use lib.ListN.{get_or, set}
use Rattle.numbers.specs.declared.Operation.{Operation}
use Rattle.theory_machine.specs.Tags.{register_count, buffer_count, station_count, store_count, buffer_tag, station_tag, suits}
use Rattle.theory_machine.specs.Instruction.{Instruction, no_instruction, load, store, copy, cell_arithmetic, register_arithmetic}
use Rattle.theory_machine.specs.Machine.{Kind, Operand, num, tag, Buffer, free_buffer, waiting, full, Station, free_station, holding, done, StoreBuffer, free_store, live, Machine, Shape, buffer_at, station_at, store_at, register_at, store_cell}
use Rattle.theory_machine.specs.GoodOrder.{Giver, from_buffer, from_station, giver, giver_of}
use Rattle.theory_machine.specs.Issue.{loaded, copied, with_cell, with_register, storing}
use Rattle.theory_machine.proofs.Rows.{set_all, set_one, past}
use Rattle.theory_machine.proofs.Givers.{Grows, grows_on, take_buffer, take_station, new_buffer, new_station}
use Rattle.theory_machine.proofs.Holds.{names_map, Holder, register, sink, source, stored, Reading, Held, held_grow, BufferOk, StationOk, StoreOk, station_grow, store_grow, Inv}

-- the slots that an accepted issue found: buffer b, station s, store buffer t
module _ {A : Type 0} (m : Machine A) where
  abbrev pub BufferRoom : ℕ → Type 0
  BufferRoom b = (b < buffer_count) × (buffer_at m b ≡ free_buffer)

  abbrev pub StationRoom : Operation → ℕ → Type 0
  StationRoom o s = (s < station_count) × (station_at m s ≡ free_station) × (suits s o ≡ true)

  abbrev pub StoreRoom : (c t : ℕ) → Type 0
  StoreRoom c t = (t < store_count) × (store_at m t ≡ free_store) × ((j : ℕ) → j < store_count → store_cell (store_at m j) ≢ some c)

  pub no_store_lem : Shape m → (c : ℕ) → ((j : ℕ) → j < store_count → store_cell (store_at m j) ≢ some c) → (j : ℕ) → store_cell (store_at m j) ≢ some c
  no_store_lem S c f =
      past (λ j s. store_cell s ≢ some c) free_store m.stores store_count S.three_stores f (λ j z. let y : ◌≡◌ {A = ℕ} 0 1 = cc in omega arith)

  abbrev pub Room : Instruction → (b s t : ℕ) → Type 0
  Room no_instruction b s t = ⊥
  Room (load r c) b s t = (r < register_count) × BufferRoom b
  Room (copy r x) b s t = (r < register_count) × (x < register_count)
  Room (cell_arithmetic o r c) b s t = (r < register_count) × BufferRoom b × StationRoom o s
  Room (register_arithmetic o r x) b s t = (r < register_count) × (x < register_count) × StationRoom o s
  Room (store r c) b s t = (r < register_count) × StoreRoom c t

module _ (K : Kind) where
  -- the machine after an issue, at those slots
  abbrev pub issued : Machine K.Num → Instruction → (b s t : ℕ) → Machine K.Num
  issued m no_instruction b s t = m
  issued m (load r c) b s t = loaded K m r c b
  issued m (copy r x) b s t = copied K m r x
  issued m (cell_arithmetic o r c) b s t = with_cell K m o r c b s
  issued m (register_arithmetic o r x) b s t = with_register K m o r x s
  issued m (store r c) b s t = storing K m r c t

  module _ (X Y : Reading K.Num) where
    -- what h asks for under X is enough for what k asks for under Y
    pub record Enough (h k : Holder) : Type 0 where
      pub givers : (g : Giver) → X.on_giver h g → Y.on_giver k g
      pub numbers : (u : K.Num) → X.on_number h u → Y.on_number k u

    -- whatever a slot says under X it says under Y
    pub record Widens : Type 0 where
      pub on_waiting : (p c : ℕ) → X.waiting_ok p c → Y.waiting_ok p c
      pub on_full : (p : ℕ) (v : K.Num) → X.full_ok p v → Y.full_ok p v
      pub on_holding : (i p : ℕ) (o : Operation) → X.holding_ok i p o → Y.holding_ok i p o
      pub on_done : (p : ℕ) (v : K.Num) → X.done_ok p v → Y.done_ok p v
      pub on_live : (p c : ℕ) → X.live_ok p c → Y.live_ok p c
      pub on_sink : (p : ℕ) → Enough (sink p) (sink p)
      pub on_source : (p : ℕ) → Enough (source p) (source p)
      pub on_stored : (p : ℕ) → Enough (stored p) (stored p)

    -- the other registers ask for what they asked for
    abbrev pub Others : ℕ → Type 0
    Others r = (j : ℕ) → j ≢ r → Enough (register j) (register j)

    -- the station that takes an arithmetic instruction of place q: its operation, its sink, its result
    pub record Works (q : ℕ) (o : Operation) (r : ℕ) : Type 0 where
      pub holds : (i : ℕ) → suits i o ≡ true → Y.holding_ok i q o
      pub sinks : Enough (register r) (sink q)
      pub gives : Y.on_giver (register r) (from_station q)
      pub others : Others r

    -- what an issue of the instruction at place q asks of the two readings
    abbrev pub Issues : ℕ → Instruction → Type 0
    Issues q no_instruction = Unit
    Issues q (load r c) = Y.waiting_ok q c × Y.on_giver (register r) (from_buffer q) × Others r
    Issues q (copy r x) = Enough (register x) (register r) × Others r
    Issues q (cell_arithmetic o r c) = Works q o r × Y.waiting_ok q c × Y.on_giver (source q) (from_buffer q)
    Issues q (register_arithmetic o r x) = Works q o r × Enough (register x) (source q)
    Issues q (store r c) = Y.live_ok q c × Enough (register r) (stored q) × ((j : ℕ) → Enough (register j) (register j))

    held-enough : (G : ℕ → Giver) {h k : Holder} → Enough h k → (o : Operand K.Num) → Held X G h o → Held Y G k o
    held-enough G e (num u) a = e.numbers u a
    held-enough G e (tag t) a = names_map e.givers (G t) a

    module _ (W : Widens) (m : Machine K.Num) (S : Shape m) (I : Inv K X m) where
      buffer_wide : (b : Buffer K.Num) → BufferOk X b → BufferOk Y b
      buffer_wide free_buffer k = k
      buffer_wide (waiting p c) k = W.on_waiting p c k
      buffer_wide (full p v) k = W.on_full p v k

      station_wide : (G : ℕ → Giver) (i : ℕ) (s : Station K.Num) → StationOk X G i s → StationOk Y G i s
      station_wide G i free_station k = k
      station_wide G i (holding p o x y) k =
          (W.on_holding i p o k.0, held-enough G (W.on_sink p) x k.1, held-enough G (W.on_source p) y k.2)
      station_wide G i (done p v) k = W.on_done p v k

      store_wide : (G : ℕ → Giver) (s : StoreBuffer K.Num) → StoreOk X G s → StoreOk Y G s
      store_wide G free_store k = k
      store_wide G (live p c x) k = (W.on_live p c k.0, held-enough G (W.on_stored p) x k.1)

      -- the old slots, read under Y with givers that have grown
      module _ {G : ℕ → Giver} (g : Grows (giver_of m) G) where
        stations-after : (j : ℕ) → StationOk Y G j (station_at m j)
        stations-after j = station_grow Y g j (station_at m j) (station_wide (giver_of m) j (station_at m j) (I.stations j))

        stores-after : (j : ℕ) → StoreOk Y G (store_at m j)
        stores-after j = store_grow Y g (store_at m j) (store_wide (giver_of m) (store_at m j) (I.stores j))

        -- register j's operand, for another holder
        register-after : (j : ℕ) (k : Holder) → Enough (register j) k → Held Y G k (register_at K m j)
        register-after j k e = held_grow Y g k (register_at K m j) (held-enough (giver_of m) e (register_at K m j) (I.registers j))

        -- register r takes o
        registers-after : (r : ℕ) → r < register_count → (o : Operand K.Num) → Others r → Held Y G (register r) o
            → (j : ℕ) → Held Y G (register j) (get_or (set m.registers r o) j (num K.nought))
        registers-after r h o f q =
            set_one (λ j x. Held Y G (register j) x) (num K.nought) m.registers r o (omega (arith, S.four_registers))
            (λ j d. register-after j (register j) (f j d)) q

      buffers-after : (j : ℕ) → BufferOk Y (buffer_at m j)
      buffers-after j = buffer_wide (buffer_at m j) (I.buffers j)

      abbrev q : ℕ
      q = m.next

      -- ISSUE, instruction by instruction
      pub issue_keeps : (i : Instruction) (b s t : ℕ) → Room m i b s t → Issues q i → Inv K Y (issued m i b s t)
      issue_keeps no_instruction b s t h k = absurd h
      issue_keeps (load r c) b s t h k =
          let x : Buffer K.Num = waiting q c in
          let g : Grows (giver_of m) (giver (set m.buffers b x) m.stations) = take_buffer m.buffers m.stations b x h.1.1 in
          record {
            registers = registers-after g r h.0 (tag (buffer_tag b)) k.2 (rw (new_buffer m.buffers m.stations b x S.six_buffers h.1.0) k.1);
            buffers = set_all (λ j y. BufferOk Y y) free_buffer m.buffers b x buffers-after k.0;
            stations = stations-after g;
            stores = stores-after g;
          }
      issue_keeps (copy r x) b s t h k =
          let g : Grows (giver_of m) (giver_of m) = λ u e. refl in
          record {
            registers = registers-after g r h.0 (register_at K m x) k.1 (register-after g x (register r) k.0);
            buffers = buffers-after;
            stations = stations-after g;
            stores = stores-after g;
          }
      issue_keeps (cell_arithmetic o r c) b s t h k =
          let x : Buffer K.Num = waiting q c in
          let bs : List (Buffer K.Num) = set m.buffers b x in
          let y : Station K.Num = holding q o (register_at K m r) (tag (buffer_tag b)) in
          let G : ℕ → Giver = giver bs (set m.stations s y) in
          let g : Grows (giver_of m) G =
          grows_on (take_buffer m.buffers m.stations b x h.1.1) (take_station bs m.stations s y h.2.1) in
          record {
            registers = registers-after g r h.0 (tag (station_tag s)) k.0.others (rw (new_station bs m.stations s y S.five_stations h.2.0) k.0.gives);
            buffers = set_all (λ j z. BufferOk Y z) free_buffer m.buffers b x buffers-after k.1;
            stations = set_all (λ j z. StationOk Y G j z) free_station m.stations s y (stations-after g) (
              k.0.holds s h.2.2,
              register-after g r (sink q) k.0.sinks,
              rw (new_buffer m.buffers (set m.stations s y) b x S.six_buffers h.1.0) k.2,
            );
            stores = stores-after g;
          }
      issue_keeps (register_arithmetic o r x) b s t h k =
          let y : Station K.Num = holding q o (register_at K m r) (register_at K m x) in
          let G : ℕ → Giver = giver m.buffers (set m.stations s y) in
          let g : Grows (giver_of m) G = take_station m.buffers m.stations s y h.2.1 in
          record {
            registers = registers-after g r h.0 (tag (station_tag s)) k.0.others (rw (new_station m.buffers m.stations s y S.five_stations h.2.0) k.0.gives);
            buffers = buffers-after;
            stations = set_all (λ j z. StationOk Y G j z) free_station m.stations s y (stations-after g)
                (k.0.holds s h.2.2, register-after g r (sink q) k.0.sinks, register-after g x (source q) k.1);
            stores = stores-after g;
          }
      issue_keeps (store r c) b s t h k =
          let g : Grows (giver_of m) (giver_of m) = λ u e. refl in
          record {
            registers = λ j. register-after g j (register j) (k.2 j);
            buffers = buffers-after;
            stations = stations-after g;
            stores = set_all (λ j z. StoreOk Y (giver_of m) z) free_store m.stores t (live q c (register_at K m r)) (stores-after g)
                (k.0, register-after g r (stored q) k.1);
          }
