-- What the slots of a machine say, over any reading of them: one invariant, kept by each step that is no issue. It is used twice:
-- with places (good order is kept) and with numbers (they are those of the one-at-a-time run).
use mathlib.Core.Path.{◌≡◌, refl, ◌∙◌}
use mathlib.Core.Bool.{Bool, true, false, cond}
use mathlib.Core.List.{List, map}
use Prim.Native.Nat.{ℕ, ◌<◌}
use lib.Dec.{eqb}
use lib.ListN.{get_or, set, get_or-map}
use borrow.Author.Tests.{eqb-true, eqb-false}
use Rattle.numbers.specs.declared.Operation.{Operation}
use Rattle.theory_machine.specs.Tags.{buffer_count, station_count, buffer_tag, station_tag}
use Rattle.theory_machine.specs.Machine.{Kind, Lent, Operand, num, tag, Buffer, free_buffer, waiting, full, Station, free_station, holding, done, StoreBuffer, free_store, live, Machine, put_buffer, put_station, put_store, buffer_at, station_at, store_at, register_at}
use Rattle.theory_machine.specs.GoodOrder.{Giver, nobody, from_buffer, from_station, is_some, giver, giver_of}
use Rattle.theory_machine.specs.Steps.{give, give_station, give_store, granted, operand_cell}
use Rattle.theory_machine.proofs.Rows.{set_all}
use Rattle.theory_machine.proofs.Givers.{Grows, SameBut, same_buffer, same_station, but_buffer, but_station, giver-given, giver_buffer, giver_station}

-- a giver that is somebody, of whom Q holds
abbrev pub Names : (Giver → Type 0) → Giver → Type 0
Names Q nobody = ⊥
Names Q (from_buffer p) = Q (from_buffer p)
Names Q (from_station p) = Q (from_station p)

pub names_some : (Q : Giver → Type 0) (g : Giver) → Names Q g → is_some g ≡ true
names_some Q nobody h = absurd h
names_some Q (from_buffer p) h = refl
names_some Q (from_station p) h = refl

pub names_map : {Q S : Giver → Type 0} → ((g : Giver) → Q g → S g) → (g : Giver) → Names Q g → Names S g
names_map f nobody h = h
names_map f (from_buffer p) h = f (from_buffer p) h
names_map f (from_station p) h = f (from_station p) h

-- WHO HOLDS AN OPERAND: a register, the sink or the source of a station of some place, a store buffer of some place
pub data Holder : Type 0 where
  register : (i : ℕ) → Holder
  sink source stored : (place : ℕ) → Holder

-- A READING: what the operand of each holder asks of a giver, or of a number, and what each slot says of itself
pub record Reading (A : Type 0) : Type 1 where
  pub on_giver : Holder → Giver → Type 0
  pub on_number : Holder → A → Type 0
  pub waiting_ok : (place cell : ℕ) → Type 0
  pub full_ok : (place : ℕ) → A → Type 0
  pub holding_ok : (i place : ℕ) → Operation → Type 0
  pub done_ok : (place : ℕ) → A → Type 0
  pub live_ok : (place cell : ℕ) → Type 0

module _ {A : Type 0} (X : Reading A) where
  abbrev pub Held : (ℕ → Giver) → Holder → Operand A → Type 0
  Held G h (num u) = X.on_number h u
  Held G h (tag t) = Names (X.on_giver h) (G t)

  abbrev pub BufferOk : Buffer A → Type 0
  BufferOk free_buffer = Unit
  BufferOk (waiting p c) = X.waiting_ok p c
  BufferOk (full p v) = X.full_ok p v

  abbrev pub StationOk : (ℕ → Giver) → ℕ → Station A → Type 0
  StationOk G i free_station = Unit
  StationOk G i (holding p o x y) = X.holding_ok i p o × Held G (sink p) x × Held G (source p) y
  StationOk G i (done p v) = X.done_ok p v

  abbrev pub StoreOk : (ℕ → Giver) → StoreBuffer A → Type 0
  StoreOk G free_store = Unit
  StoreOk G (live p c x) = X.live_ok p c × Held G (stored p) x

  -- OPERANDS, as givers come and go

  pub held_grow : {G H : ℕ → Giver} → Grows G H → (h : Holder) (o : Operand A) → Held G h o → Held H h o
  held_grow g h (num u) k = k
  held_grow {G} {H} g h (tag t) k = rw (g t (names_some (X.on_giver h) (G t) k)) k

  pub station_grow : {G H : ℕ → Giver} → Grows G H → (i : ℕ) (s : Station A) → StationOk G i s → StationOk H i s
  station_grow g i free_station k = k
  station_grow g i (holding p o x y) k = (k.0, held_grow g (sink p) x k.1, held_grow g (source p) y k.2)
  station_grow g i (done p v) k = k

  pub store_grow : {G H : ℕ → Giver} → Grows G H → (s : StoreBuffer A) → StoreOk G s → StoreOk H s
  store_grow g free_store k = k
  store_grow g (live p c x) k = (k.0, held_grow g (stored p) x k.1)

  -- the number v is what every holder of tag t asked for
  abbrev pub Gives : (ℕ → Giver) → ℕ → A → Type 0
  Gives G t v = (h : Holder) → Names (X.on_giver h) (G t) → X.on_number h v

  module _ {G H : ℕ → Giver} (t : ℕ) (v : A) (s : SameBut t G H) (f : Gives G t v) where
    pub held_give : (h : Holder) (o : Operand A) → Held G h o → Held H h (give t v o)
    held_give h (num u) k = k
    held_give h (tag u) k = go (eqb u t) refl
      where
        go : (b : Bool) → eqb u t ≡ b → Held H h (cond b (num v) (tag u))
        go true e = f h (rw (eqb-true u t e) at k)
        go false e = rw (s u (eqb-false u t e)) k

    pub station_give : (i : ℕ) (x : Station A) → StationOk G i x → StationOk H i (give_station t v x)
    station_give i free_station k = k
    station_give i (holding p o x y) k = (k.0, held_give (sink p) x k.1, held_give (source p) y k.2)
    station_give i (done p r) k = k

    pub store_give : (x : StoreBuffer A) → StoreOk G x → StoreOk H (give_store t v x)
    store_give free_store k = k
    store_give (live p c x) k = (k.0, held_give (stored p) x k.1)

module _ (K : Kind) where
  -- THE INVARIANT: every slot is as it says
  pub record Inv (X : Reading K.Num) (m : Machine K.Num) : Type 0 where
    pub registers : (i : ℕ) → Held X (giver_of m) (register i) (register_at K m i)
    pub buffers : (i : ℕ) → BufferOk X (buffer_at m i)
    pub stations : (i : ℕ) → StationOk X (giver_of m) i (station_at m i)
    pub stores : (i : ℕ) → StoreOk X (giver_of m) (store_at m i)

  -- what the steps that are no issue ask of a reading
  pub record Laws (L : Lent K.Num) (X : Reading K.Num) : Type 0 where
    pub arrives : (p c : ℕ) → X.waiting_ok p c → X.full_ok p (operand_cell K L c)
    pub completes : (i p : ℕ) (o : Operation) (x y : K.Num) → X.holding_ok i p o → X.on_number (sink p) x → X.on_number (source p) y
        → X.done_ok p (K.apply o x y)
    pub buffer_gives : (p : ℕ) (v : K.Num) → X.full_ok p v → (h : Holder) → X.on_giver h (from_buffer p) → X.on_number h v
    pub station_gives : (p : ℕ) (v : K.Num) → X.done_ok p v → (h : Holder) → X.on_giver h (from_station p) → X.on_number h v

  module _ (L : Lent K.Num) (X : Reading K.Num) (law : Laws L X) (m : Machine K.Num) (I : Inv X m) where
    pub arrival_keeps : (i p c : ℕ) → buffer_at m i ≡ waiting p c → Inv X (put_buffer m i (full p (operand_cell K L c)))
    arrival_keeps i p c e =
        let b : Buffer K.Num = full p (operand_cell K L c) in
        let g : Grows (giver_of m) (giver (set m.buffers i b) m.stations) = same_buffer m.buffers m.stations i b (rw e) in
        record {
          registers = λ j. held_grow X g (register j) (register_at K m j) (I.registers j);
          buffers = set_all (λ j b. BufferOk X b) free_buffer m.buffers i b I.buffers (law.arrives p c (rw e at (I.buffers i)));
          stations = λ j. station_grow X g j (station_at m j) (I.stations j);
          stores = λ j. store_grow X g (store_at m j) (I.stores j);
        }

    pub completion_keeps : (i p : ℕ) (o : Operation) (x y : K.Num) → station_at m i ≡ holding p o (num x) (num y)
        → Inv X (put_station m i (done p (K.apply o x y)))
    completion_keeps i p o x y e =
        let s : Station K.Num = done p (K.apply o x y) in
        let H : ℕ → Giver = giver m.buffers (set m.stations i s) in
        let g : Grows (giver_of m) H = same_station m.buffers m.stations i s (rw e) in
        let k : StationOk X (giver_of m) i (holding p o (num x) (num y)) = rw e at (I.stations i) in
        record {
          registers = λ j. held_grow X g (register j) (register_at K m j) (I.registers j);
          buffers = I.buffers;
          stations = set_all (λ j s. StationOk X H j s) free_station m.stations i s
              (λ j. station_grow X g j (station_at m j) (I.stations j)) (law.completes i p o x y k.0 k.1 k.2);
          stores = λ j. store_grow X g (store_at m j) (I.stores j);
        }

    -- the operands after a grant, whoever gave
    pub record Given (t : ℕ) (v : K.Num) (H : ℕ → Giver) : Type 0 where
      pub registers : (i : ℕ) → Held X H (register i) (get_or (map (give t v) m.registers) i (num K.nought))
      pub stations : (i : ℕ) → StationOk X H i (get_or (map (give_station t v) m.stations) i free_station)
      pub stores : (i : ℕ) → StoreOk X H (get_or (map (give_store t v) m.stores) i free_store)

    given : (t : ℕ) (v : K.Num) (H : ℕ → Giver) → SameBut t (giver_of m) H → Gives X (giver_of m) t v → Given t v H
    given t v H s f = record {
      registers = λ i. rw (get_or-map (give t v) m.registers i (num K.nought)) (held_give X t v s f (register i) (register_at K m i) (I.registers i));
      stations = λ i. rw (get_or-map (give_station t v) m.stations i free_station) (station_give X t v s f i (station_at m i) (I.stations i));
      stores = λ i. rw (get_or-map (give_store t v) m.stores i free_store) (store_give X t v s f (store_at m i) (I.stores i));
    }

    pub buffer_grant_keeps : (i p : ℕ) (v : K.Num) → i < buffer_count → buffer_at m i ≡ full p v
        → Inv X (put_buffer (granted m (buffer_tag i) v) i free_buffer)
    buffer_grant_keeps i p v h e =
        let t : ℕ = buffer_tag i in
        let H : ℕ → Giver = giver (set m.buffers i free_buffer) (map (give_station t v) m.stations) in
        let k : Given t v H =
        given t v H
        (λ u d. giver-given (set m.buffers i free_buffer) m.stations t v u ∙ but_buffer m.buffers m.stations i free_buffer u d)
        (λ j n. law.buffer_gives p v (rw e at (I.buffers i)) j (rw (giver_buffer m.buffers m.stations i h, e) at n)) in
        record {
          registers = k.registers;
          buffers = set_all (λ j b. BufferOk X b) free_buffer m.buffers i free_buffer I.buffers tt;
          stations = k.stations;
          stores = k.stores;
        }

    pub station_grant_keeps : (i p : ℕ) (v : K.Num) → i < station_count → station_at m i ≡ done p v
        → Inv X (put_station (granted m (station_tag i) v) i free_station)
    station_grant_keeps i p v h e =
        let t : ℕ = station_tag i in
        let ss : List (Station K.Num) = map (give_station t v) m.stations in
        let H : ℕ → Giver = giver m.buffers (set ss i free_station) in
        let k : Given t v H =
        given t v H
        (λ u d. but_station m.buffers ss i free_station u d ∙ giver-given m.buffers m.stations t v u)
        (λ j n. law.station_gives p v (rw e at (I.stations i)) j (rw (giver_station m.buffers m.stations i h, e) at n)) in
        record {
          registers = k.registers;
          buffers = I.buffers;
          stations = set_all (λ j s. StationOk X H j s) free_station ss i free_station k.stations tt;
          stores = k.stores;
        }

    pub release_keeps : (i : ℕ) → Inv X (put_store m i free_store)
    release_keeps i = record {
      registers = I.registers;
      buffers = I.buffers;
      stations = I.stations;
      stores = set_all (λ j s. StoreOk X (giver_of m) s) free_store m.stores i free_store I.stores tt;
    }
