-- The tag of a slot, by its index from 0; "Seven is never used", so that it is the tag of none.
use Rattle.std.specs.Prelude.{cond, ℕ, ltb}
use Rattle.theory_machine.specs.Tags.{buffer_count, station_count, buffer_tag, station_tag}

abbrev pub unused : ℕ
unused = 7

abbrev pub tag_of_buffer : ℕ → ℕ
tag_of_buffer i = cond (ltb i buffer_count) (buffer_tag i) unused

abbrev pub tag_of_station : ℕ → ℕ
tag_of_station i = cond (ltb i station_count) (station_tag i) unused
