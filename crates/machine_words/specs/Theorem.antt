-- A machine comes back from its words.
use Rattle.std.specs.Prelude.{◌≡◌, List, [], ◌∷◌, ℕ, ◌≤◌, ◌<◌, T, Float, length}
use Rattle.std.specs.Float.{binary64}
use Rattle.std.specs.Float.Ieee.{fits}
use Rattle.theory_machine.specs.Machine.{Machine, Shape, Operand, num, tag, Buffer, free_buffer, waiting, full, Station, free_station, holding, done, StoreBuffer, free_store, live}
use Rattle.machine_words.specs.Image.{image_length, machine_in, image_over}

-- numbers of 64 bits and tags of eight, as every machine of a program has them
abbrev pub NumberFits : Float → Type 0
NumberFits x = T (fits binary64 x)

abbrev pub OperandFits : Operand Float → Type 0
OperandFits (num x) = NumberFits x
OperandFits (tag t) = t < 256

abbrev pub BufferFits : Buffer Float → Type 0
BufferFits free_buffer = Unit {0}
BufferFits (waiting p c) = Unit {0}
BufferFits (full p x) = NumberFits x

abbrev pub StationFits : Station Float → Type 0
StationFits free_station = Unit {0}
StationFits (holding p o x y) = OperandFits x × OperandFits y
StationFits (done p x) = NumberFits x

abbrev pub StoreFits : StoreBuffer Float → Type 0
StoreFits free_store = Unit {0}
StoreFits (live p c x) = OperandFits x

abbrev pub Each : {A : Type 0} → (A → Type 0) → List A → Type 0
Each P [] = Unit {0}
Each P (x ∷ xs) = P x × Each P xs

pub record MachineFits (m : Machine Float) : Type 0 where
  pub registers : Each OperandFits m.registers
  pub buffers : Each BufferFits m.buffers
  pub stations : Each StationFits m.stations
  pub stores : Each StoreFits m.stores

-- whatever stood in the row: the words of a machine are that machine
abbrev pub ImageBack : Type 0
ImageBack = (m : Machine Float) → Shape m → MachineFits m → (image : List ℕ) → image_length ≤ length image → machine_in (image_over m image) ≡ m
