-- What is stored, seen as the theory's machine.
use mathlib.Core.Path.{◌≡◌, refl, ◌∙◌}
use mathlib.Core.List.{List, [], ◌∷◌, map}
use Prim.Native.Nat.{ℕ, ◌<◌}
use native.Mathlib.Omega.{arith}
use lib.Ieee.{Float, nan}
use lib.ListN.{length, get_or, get_or-map, length-map}
use borrow.Author.Tests.{lt-ltb}
use Rattle.numbers.specs.Number.{number_of}
use Rattle.theory_machine.specs.Tags.{register_count, buffer_count, station_count, buffer_tag, station_tag}
use Rattle.theory_machine.specs.Machine.{num}
use Rattle.theory_machine.specs.Steps.{give, give_station, give_store, granted}
use Rattle.machine_parts.specs.declared.Machine.{Machine}
use Rattle.machine_parts.specs.declared.Operand.TheVariants.{Number}
use Rattle.machine_parts.specs.declared.Register.{Register}
use Rattle.machine_parts.specs.declared.Station.{Station}
use Rattle.machine_parts.specs.declared.StoreBuffer.{StoreBuffer}
use Rattle.machine_parts.specs.Altered.{standing}
use Rattle.machine_parts.specs.TagOf.{tag_of_buffer, tag_of_station}
use Rattle.machine_parts.specs.View.{view, view_register, view_station, view_store}
use Rattle.machine_parts.specs.Back.{register_of, station_of, store_of}
use Rattle.machine_parts.proofs.Exact.{operand_forth, station_forth, store_forth}
use Rattle.machine_parts.proofs.Seen.{map-set, any_default}
use Rattle.machine_bus.specs.Bus.{given_register, given_station, given_store}

-- a register is read within its row
pub register-seen : (rs : List Register) (x : ℕ) → length rs ≡ register_count → x < register_count
    → get_or (map view_register rs) x (num (number_of 0)) ≡ view_register (get_or rs x (record { operand = Number nan }))
register-seen rs x e h =
    any_default (map view_register rs) x (num (number_of 0)) (num nan) (omega (arith, length-map rs view_register))
    ∙ get_or-map view_register rs x (record { operand = Number nan })

-- the tag of a slot of its row
pub buffer_tagged : {i t : ℕ} → i < buffer_count → t ≡ tag_of_buffer i → t ≡ buffer_tag i
buffer_tagged {i} h e = rw (lt-ltb i buffer_count h) at e

pub station_tagged : {i t : ℕ} → i < station_count → t ≡ tag_of_station i → t ≡ station_tag i
station_tagged {i} h e = rw (lt-ltb i station_count h) at e

-- a row that has been given to
module _ {A B : Type 0} (f : A → B) (back : B → A) (forth : (b : B) → f (back b) ≡ b) (g : B → B) where
  row_seen : (l : List A) → map f (map (λ a. back (g (f a))) l) ≡ map g (map f l)
  row_seen [] = refl
  row_seen (a ∷ l) = λ i. forth (g (f a)) i ∷ row_seen l i

pub rows_given : (m : Machine) (t : ℕ) (v : Float) {rs : List Register} {ss : List Station} {ts : List StoreBuffer}
    → rs ≡ map (given_register t v) m.registers → ss ≡ map (given_station t v) m.stations → ts ≡ map (given_store t v) m.stores
    → view (standing m.next rs m.buffers ss ts) ≡ granted (view m) t v
rows_given m t v a b c = rw (
  a,
  b,
  c,
  row_seen view_register register_of operand_forth (give t v) m.registers,
  row_seen view_station station_of station_forth (give_station t v) m.stations,
  row_seen view_store store_of store_forth (give_store t v) m.stores,
)

pub ruleset stored = (map-set, register-seen, buffer_tagged, station_tagged)
