-- Document 01, "Tags and what the machine holds": the tags' numbers and limits, named once.
use Rattle.std.specs.Prelude.{Bool, true, false, cond, ℕ, ◌+◌, ◌-◌, ltb}
use Rattle.numbers.specs.declared.Operation.{Operation}
use Rattle.numbers.specs.declared.Operation.TheVariants.{Add, Subtract, Multiply, Divide}
use Rattle.theory_machine.specs.Rows.{between}

-- "operand buffers 1 to 6"
abbrev pub first_buffer : ℕ
first_buffer = 1

abbrev pub last_buffer : ℕ
last_buffer = 6

-- "multiply/divide stations 8 and 9, add stations 10 to 12. Seven is never used."
abbrev pub first_station : ℕ
first_station = 8

abbrev pub first_adder : ℕ
first_adder = 10

abbrev pub last_adder : ℕ
last_adder = 12

abbrev pub last_station : ℕ
last_station = last_adder

-- "Store buffers are 1 to 3 and have no tag."
abbrev pub first_store : ℕ
first_store = 1

abbrev pub last_store : ℕ
last_store = 3

-- "four registers", "six buffers", "five stations", "three store buffers"
abbrev pub register_count : ℕ
register_count = 4

abbrev pub buffer_count : ℕ
buffer_count = last_buffer + 1 - first_buffer

abbrev pub station_count : ℕ
station_count = last_station + 1 - first_station

abbrev pub store_count : ℕ
store_count = last_store + 1 - first_store

-- the tags of buffer i and of station i, from 0
abbrev pub buffer_tag : ℕ → ℕ
buffer_tag i = first_buffer + i

abbrev pub station_tag : ℕ → ℕ
station_tag i = first_station + i

-- what a tag names: a buffer or a station, by its index in its row, or neither
pub data Slot : Type 0 where
  neither : Slot
  buffer station : (i : ℕ) → Slot

unfoldable pub slot_of : ℕ → Slot
slot_of t =
    cond (between first_buffer last_buffer t) (buffer (t - first_buffer))
    (cond (between first_station last_station t) (station (t - first_station)) neither)

-- "add stations hold only add and subtract, the other two only multiply and divide"
abbrev pub is_addition : Operation → Bool
is_addition Add = true
is_addition Subtract = true
is_addition Multiply = false
is_addition Divide = false

-- station i, from 0, is an add station, or one of the other two; one that does not exist is neither, and suits nothing
abbrev pub is_adder : ℕ → Bool
is_adder i = between first_adder last_adder (station_tag i)

abbrev pub is_multiplier : ℕ → Bool
is_multiplier i = ltb (station_tag i) first_adder

abbrev pub suits : (i : ℕ) → Operation → Bool
suits i o = cond (is_addition o) (is_adder i) (is_multiplier i)
