-- What only the private contracts of the count cite.
use Rattle.std.specs.Prelude.{◌≡◌, ℕ, ◌+◌, ◌≤◌, eqb}
use Rattle.theory_machine.specs.Rows.{sum}
use Rattle.theory_machine.specs.Machine.{Machine}
use Rattle.theory_machine.specs.GoodOrder.{nothing_live}
use Rattle.theory_machine.specs.Count.{buffer_left, station_left, store_left}

-- r is the count of the steps that the slots of a machine still need: 0 exactly when nothing is live
pub record SlotsLeft {A : Type 0} (m : Machine A) (r : ℕ) : Type 0 where
  pub count : r ≡ sum buffer_left m.buffers + sum station_left m.stations + sum store_left m.stores
  pub at_rest : eqb r 0 ≡ nothing_live m
  -- so that it can be added to a count of words
  pub small : r ≤ 70
