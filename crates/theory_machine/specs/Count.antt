-- Document 01, "Steps left".
use Rattle.std.specs.Prelude.{List, ℕ, ◌+◌, drop}
use Rattle.theory_machine.specs.Rows.{sum}
use Rattle.theory_machine.specs.Instruction.{Instruction, no_instruction, load, store, copy, cell_arithmetic, register_arithmetic, decode}
use Rattle.theory_machine.specs.Machine.{Buffer, free_buffer, waiting, full, Station, free_station, holding, done, StoreBuffer, free_store, live, Machine}

-- "each unissued LD 3, LDR 1, cell arithmetic 5, register arithmetic 3, STD 2"
abbrev pub instruction_left : Instruction → ℕ
instruction_left no_instruction = 0
instruction_left (load r c) = 3
instruction_left (copy r x) = 1
instruction_left (cell_arithmetic o r c) = 5
instruction_left (register_arithmetic o r x) = 3
instruction_left (store r c) = 2

abbrev pub words_left : List ℕ → ℕ
words_left words = sum (λ w. instruction_left (decode w)) words

module _ {A : Type 0} where
  -- "each buffer waiting 2, full 1"
  abbrev pub buffer_left : Buffer A → ℕ
  buffer_left free_buffer = 0
  buffer_left (waiting p c) = 2
  buffer_left (full p v) = 1

  -- "each station holding 2, done 1"
  abbrev pub station_left : Station A → ℕ
  station_left free_station = 0
  station_left (holding p o x y) = 2
  station_left (done p v) = 1

  -- "each live store buffer 1"
  abbrev pub store_left : StoreBuffer A → ℕ
  store_left free_store = 0
  store_left (live p c x) = 1

  unfoldable pub count_left : List ℕ → Machine A → ℕ
  count_left words m =
      words_left (drop m.next words) + sum buffer_left m.buffers + sum station_left m.stations + sum store_left m.stores
