-- What only proofs cite: the declared machine with one part changed, by name, as the theory's (specs/Machine.antt of crate theory_machine).
use Rattle.std.specs.Prelude.{List, ℕ, ◌+◌, set}
use Rattle.machine_parts.specs.declared.Register.{Register}
use Rattle.machine_parts.specs.declared.Buffer.{Buffer}
use Rattle.machine_parts.specs.declared.Station.{Station}
use Rattle.machine_parts.specs.declared.StoreBuffer.{StoreBuffer}
use Rattle.machine_parts.specs.declared.Machine.{Machine}

abbrev pub standing : (next : ℕ) → List Register → List Buffer → List Station → List StoreBuffer → Machine
standing next rs bs ss ts = record { next = next; registers = rs; buffers = bs; stations = ss; stores = ts }

module _ (m : Machine) where
  -- "next place grows by one"
  abbrev pub onward : Machine
  onward = standing (m.next + 1) m.registers m.buffers m.stations m.stores

  abbrev pub put_register : (i : ℕ) → Register → Machine
  put_register i r = standing m.next (set m.registers i r) m.buffers m.stations m.stores

  abbrev pub put_buffer : (i : ℕ) → Buffer → Machine
  put_buffer i b = standing m.next m.registers (set m.buffers i b) m.stations m.stores

  abbrev pub put_station : (i : ℕ) → Station → Machine
  put_station i s = standing m.next m.registers m.buffers (set m.stations i s) m.stores

  abbrev pub put_store : (i : ℕ) → StoreBuffer → Machine
  put_store i s = standing m.next m.registers m.buffers m.stations (set m.stores i s)
