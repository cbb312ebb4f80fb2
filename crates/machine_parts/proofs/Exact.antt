-- A machine is known by its view: two machines with one view are equal, and every machine of crate theory_machine is a view.
use mathlib.Core.Path.{◌≡◌, refl, sym, ap, ◌∙◌}
use mathlib.Core.List.{List, [], ◌∷◌, map}
use lib.Ieee.{Float}
use Rattle.std.specs.Prelude.{Option, Some, None}
use Rattle.theory_machine.specs.Machine as theory
use Rattle.theory_machine.specs.Machine.{num, tag, free_buffer, waiting, full, free_station, holding, done, free_store, live}
use Rattle.machine_parts.specs.declared.Operand.{Operand}
use Rattle.machine_parts.specs.declared.Operand.TheVariants.{Number, Waits}
use Rattle.machine_parts.specs.declared.Register.{Register}
use Rattle.machine_parts.specs.declared.BufferState.{BufferState}
use Rattle.machine_parts.specs.declared.BufferState.TheVariants as buffer
use Rattle.machine_parts.specs.declared.Buffer.{Buffer}
use Rattle.machine_parts.specs.declared.StationState.{StationState}
use Rattle.machine_parts.specs.declared.StationState.TheVariants as station
use Rattle.machine_parts.specs.declared.Station.{Station}
use Rattle.machine_parts.specs.declared.Pending.{Pending}
use Rattle.machine_parts.specs.declared.StoreBuffer.{StoreBuffer}
use Rattle.machine_parts.specs.declared.Machine.{Machine}
use Rattle.machine_parts.specs.declared.Record.{Record}
use Rattle.machine_parts.specs.Back.{operand_of, register_of, buffer_of, station_of, store_of, machine_of, record_of}
use Rattle.machine_parts.specs.View.{view_operand, view_register, view_buffer_state, view_buffer, view_station_state, view_station, view_pending, view_store, view, view_record}

-- THERE AND BACK

pub operand_back : (o : Operand) → operand_of (view_operand o) ≡ o
operand_back (Number x) = refl
operand_back (Waits t) = refl

pub register_back : (r : Register) → register_of (view_register r) ≡ r
register_back r = ap (λ (o : Operand). record { operand = o }) (operand_back r.operand)

buffer_back : (b : Buffer) → buffer_of (view_buffer b) ≡ b
buffer_back b = go b.state
  where
    go : (s : BufferState) → buffer_of (view_buffer_state s) ≡ record { state = s }
    go buffer.Free = refl
    go (buffer.Waiting f) = refl
    go (buffer.Full h) = refl

pub station_back : (s : Station) → station_of (view_station s) ≡ s
station_back s = go s.state
  where
    go : (s : StationState) → station_of (view_station_state s) ≡ record { state = s }
    go station.Free = refl
    go (station.Holding w) = λ i.
        record {
          state = station.Holding (record { place = w.place; operation = w.operation; sink = operand_back w.sink i; source = operand_back w.source i });
        }
    go (station.Done h) = refl

pub store_back : (s : StoreBuffer) → store_of (view_store s) ≡ s
store_back s = go s.pending
  where
    go : (s : Option Pending) → store_of (view_pending s) ≡ record { pending = s }
    go None = refl
    go (Some p) = λ i. record { pending = Some (record { place = p.place; cell = p.cell; operand = operand_back p.operand i }) }

maps_back : {A B : Type 0} (f : A → B) (g : B → A) (h : (a : A) → g (f a) ≡ a) (l : List A) → map g (map f l) ≡ l
maps_back f g h [] = refl
maps_back f g h (a ∷ l) = λ i. h a i ∷ maps_back f g h l i

pub back : (m : Machine) → machine_of (view m) ≡ m
back m = λ i.
    record {
      next = m.next;
      registers = maps_back view_register register_of register_back m.registers i;
      buffers = maps_back view_buffer buffer_of buffer_back m.buffers i;
      stations = maps_back view_station station_of station_back m.stations i;
      stores = maps_back view_store store_of store_back m.stores i;
    }

pub view_exact : (m n : Machine) → view m ≡ view n → m ≡ n
view_exact m n e = sym (back m) ∙ ap machine_of e ∙ back n

-- and so is each slot
module _ {A B : Type 0} (f : A → B) (g : B → A) (h : (a : A) → g (f a) ≡ a) where
  exact : (x y : A) → f x ≡ f y → x ≡ y
  exact x y e = sym (h x) ∙ ap g e ∙ h y

pub register_exact : (x y : Register) → view_register x ≡ view_register y → x ≡ y
register_exact = exact view_register register_of register_back

pub buffer_exact : (x y : Buffer) → view_buffer x ≡ view_buffer y → x ≡ y
buffer_exact = exact view_buffer buffer_of buffer_back

pub station_exact : (x y : Station) → view_station x ≡ view_station y → x ≡ y
station_exact = exact view_station station_of station_back

pub store_exact : (x y : StoreBuffer) → view_store x ≡ view_store y → x ≡ y
store_exact = exact view_store store_of store_back

-- so are the records of a log
pub records_exact : (x y : List Record) → map view_record x ≡ map view_record y → x ≡ y
records_exact x y e = sym (maps_back view_record record_of (λ r. refl) x) ∙ ap (map record_of) e ∙ maps_back view_record record_of (λ r. refl) y

-- BACK AND THERE

pub operand_forth : (o : theory.Operand Float) → view_operand (operand_of o) ≡ o
operand_forth (num x) = refl
operand_forth (tag t) = refl

buffer_forth : (b : theory.Buffer Float) → view_buffer (buffer_of b) ≡ b
buffer_forth free_buffer = refl
buffer_forth (waiting p c) = refl
buffer_forth (full p v) = refl

pub station_forth : (s : theory.Station Float) → view_station (station_of s) ≡ s
station_forth free_station = refl
station_forth (holding p o x y) = λ i. holding p o (operand_forth x i) (operand_forth y i)
station_forth (done p v) = refl

pub store_forth : (s : theory.StoreBuffer Float) → view_store (store_of s) ≡ s
store_forth free_store = refl
store_forth (live p c x) = λ i. live p c (operand_forth x i)

pub forth : (m : theory.Machine Float) → view (machine_of m) ≡ m
forth m = λ i.
    record {
      next = m.next;
      registers = maps_back register_of view_register operand_forth m.registers i;
      buffers = maps_back buffer_of view_buffer buffer_forth m.buffers i;
      stations = maps_back station_of view_station station_forth m.stations i;
      stores = maps_back store_of view_store store_forth m.stores i;
    }
