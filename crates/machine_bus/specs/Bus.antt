-- What only the code's contracts cite: whether a slot waits, and what it becomes, by its view.
use Rattle.std.specs.Prelude.{Bool, false, ◌||◌, ℕ, eqb, Float}
use Rattle.theory_machine.specs.Machine as theory
use Rattle.theory_machine.specs.Machine.{num, tag, free_station, holding, done, free_store, live}
use Rattle.theory_machine.specs.Steps as steps
use Rattle.machine_parts.specs.declared.Operand.{Operand}
use Rattle.machine_parts.specs.declared.Register.{Register}
use Rattle.machine_parts.specs.declared.Station.{Station}
use Rattle.machine_parts.specs.declared.StoreBuffer.{StoreBuffer}
use Rattle.machine_parts.specs.View.{view_operand, view_register, view_station, view_store}
use Rattle.machine_parts.specs.Back.{operand_of, register_of, station_of, store_of}

-- WHETHER A SLOT WAITS for a tag: asked before anything is stored
module _ {A : Type 0} where
  abbrev pub waits_for : (t : ℕ) → theory.Operand A → Bool
  waits_for t (num x) = false
  waits_for t (tag u) = eqb u t

  abbrev pub station_waits : (t : ℕ) → theory.Station A → Bool
  station_waits t free_station = false
  station_waits t (holding p o x y) = waits_for t x || waits_for t y
  station_waits t (done p v) = false

  abbrev pub store_waits : (t : ℕ) → theory.StoreBuffer A → Bool
  store_waits t free_store = false
  store_waits t (live p c x) = waits_for t x

module _ (t : ℕ) where
  abbrev pub operand_waiting : Operand → Bool
  operand_waiting o = waits_for t (view_operand o)

  abbrev pub register_waiting : Register → Bool
  register_waiting r = waits_for t (view_register r)

  abbrev pub station_waiting : Station → Bool
  station_waiting s = station_waits t (view_station s)

  abbrev pub store_waiting : StoreBuffer → Bool
  store_waiting s = store_waits t (view_store s)

-- WHAT A SLOT BECOMES
module _ (t : ℕ) (v : Float) where
  abbrev pub given_operand : Operand → Operand
  given_operand o = operand_of (steps.give t v (view_operand o))

  abbrev pub given_register : Register → Register
  given_register r = register_of (steps.give t v (view_register r))

  abbrev pub given_station : Station → Station
  given_station s = station_of (steps.give_station t v (view_station s))

  abbrev pub given_store : StoreBuffer → StoreBuffer
  given_store s = store_of (steps.give_store t v (view_store s))
