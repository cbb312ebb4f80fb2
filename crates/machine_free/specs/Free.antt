-- What only the code's contracts cite: the lowest free slot of a row and whether a cell is live, as the theory has them of the row alone.
use Rattle.std.specs.Prelude as std
use Rattle.std.specs.Prelude.{Some, None, Bool, ◌&&◌, not, List, ℕ, Float, get_or}
use Rattle.std.proofs.Math.Option.{Option, none, some}
use Rattle.numbers.specs.declared.Operation.{Operation}
use Rattle.theory_machine.specs.Rows.{all_below, first}
use Rattle.theory_machine.specs.Tags.{buffer_count, station_count, store_count, suits}
use Rattle.theory_machine.specs.Machine as theory
use Rattle.theory_machine.specs.Machine.{free_buffer, free_station, free_store, is_free_buffer, is_free_station, is_free_store, store_cell}
use Rattle.theory_machine.specs.GoodOrder.{has_cell}

-- a slot by its index from 0, or none
abbrev pub view_free_slot : std.Option ℕ → Option ℕ
view_free_slot (Some i) = some i
view_free_slot None = none

-- THE LOWEST-NUMBERED FREE ONE of a row: the theory's, of the row alone
abbrev pub lowest_buffer_in : List (theory.Buffer Float) → Option ℕ
lowest_buffer_in bs = first (λ i. is_free_buffer (get_or bs i free_buffer)) 0 buffer_count

abbrev pub lowest_station_in : List (theory.Station Float) → Operation → Option ℕ
lowest_station_in ss o = first (λ i. suits i o && is_free_station (get_or ss i free_station)) 0 station_count

abbrev pub lowest_store_in : List (theory.StoreBuffer Float) → Option ℕ
lowest_store_in ts = first (λ i. is_free_store (get_or ts i free_store)) 0 store_count

abbrev pub cell_live_in : List (theory.StoreBuffer Float) → (c : ℕ) → Bool
cell_live_in ts c = not (all_below store_count (λ i. not (has_cell c (store_cell (get_or ts i free_store)))))
