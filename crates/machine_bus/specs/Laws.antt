-- What does not wait is kept.
use Rattle.std.specs.Prelude.{◌≡◌, Bool, true, false, ◌||◌, ℕ, Float, refl}
use Rattle.std.proofs.Common.{ap, ◌∙◌}
use Rattle.theory_machine.specs.Machine as theory
use Rattle.theory_machine.specs.Machine.{num, tag, free_station, holding, done, free_store, live}
use Rattle.theory_machine.specs.Steps.{give, give_station, give_store}
use Rattle.machine_parts.specs.declared.Operand.{Operand}
use Rattle.machine_parts.specs.declared.Register.{Register}
use Rattle.machine_parts.specs.declared.Station.{Station}
use Rattle.machine_parts.specs.declared.StoreBuffer.{StoreBuffer}
use Rattle.machine_parts.specs.View.{view_operand, view_register, view_station, view_store}
use Rattle.machine_parts.specs.Back.{operand_of, register_of, station_of, store_of}
use Rattle.machine_parts.proofs.Exact.{operand_back, register_back, station_back, store_back}
use Rattle.machine_bus.specs.Bus.{waits_for, station_waits, store_waits, operand_waiting, register_waiting, station_waiting, store_waiting, given_operand, given_register, given_station, given_store}

module _ {A : Type 0} (t : ℕ) (v : A) where
  operand_keeps : (o : theory.Operand A) → waits_for t o ≡ false → give t v o ≡ o
  operand_keeps (num x) e = refl
  operand_keeps (tag u) e = rw e

  neither : (a b : Bool) → (a || b) ≡ false → (a ≡ false) × (b ≡ false)
  neither true b e = (e, cc)
  neither false b e = (refl, e)

  station_keeps : (s : theory.Station A) → station_waits t s ≡ false → give_station t v s ≡ s
  station_keeps free_station e = refl
  station_keeps (holding p o x y) e =
      let n = neither (waits_for t x) (waits_for t y) e in rw (operand_keeps x n.0, operand_keeps y n.1)
  station_keeps (done p r) e = refl

  store_keeps : (s : theory.StoreBuffer A) → store_waits t s ≡ false → give_store t v s ≡ s
  store_keeps free_store e = refl
  store_keeps (live p c x) e = rw (operand_keeps x e)

module _ (t : ℕ) (v : Float) where
  pub operand_kept : (o : Operand) → operand_waiting t o ≡ false → given_operand t v o ≡ o
  operand_kept o e = ap operand_of (operand_keeps t v (view_operand o) e) ∙ operand_back o

  pub register_kept : (r : Register) → register_waiting t r ≡ false → given_register t v r ≡ r
  register_kept r e = ap register_of (operand_keeps t v (view_register r) e) ∙ register_back r

  pub station_kept : (s : Station) → station_waiting t s ≡ false → given_station t v s ≡ s
  station_kept s e = ap station_of (station_keeps t v (view_station s) e) ∙ station_back s

  pub store_kept : (s : StoreBuffer) → store_waiting t s ≡ false → given_store t v s ≡ s
  store_kept s e = ap store_of (store_keeps t v (view_store s) e) ∙ store_back s
