-- Machines as given, whether or not a run reaches them, and what one step answers: for each clause of good order one just inside (0) and
-- one just outside (6); machines in good order that no run reaches (0); the order of refusals. The claims stand below the tables.
use Rattle.std.specs.Prelude.{◌≡◌, List, [], ◌∷◌, ◌++◌, map, ℕ, replicate}
use Rattle.numbers.specs.declared.Operation.TheVariants.{Add, Subtract, Multiply, Divide}
use Rattle.theory_machine.specs.Tags.{register_count, buffer_count, station_count}
use Rattle.theory_machine.specs.Machine.{Kind, Lent, num, tag, free_buffer, waiting, full, free_station, holding, done, free_store, live, Machine, standing, next_is, put_register, put_buffer, put_station, put_store}
use Rattle.theory_machine.specs.Issue.{taken, loaded, with_cell, with_register, storing}
use Rattle.theory_machine.specs.Steps.{step}
use Rattle.theory_machine.specs.Entries.{empty_machine}

pub record Row (A : Type 0) : Type 0 where
  pub lent : Lent A
  pub machine : Machine A
  pub code : ℕ
  pub refusal : ℕ

-- an issue of the second word of a list
pub record IssueRow (A : Type 0) : Type 0 where
  pub word : ℕ
  pub machine : Machine A
  pub after : Machine A

module _ (K : Kind) (v : K.Num) where
  -- a list of four words (LD F0,0), two operand cells, three result cells; and the same with more cells than the cell limit
  abbrev lent : Lent K.Num
  lent = record { words = replicate 4 65536; operands = replicate 2 v; results = 3 }

  abbrev wide : Lent K.Num
  wide = record { words = replicate 4 65536; operands = replicate 300 v; results = 300 }

  -- nothing live, at this next place
  abbrev at : ℕ → Machine K.Num
  at n = next_is (empty_machine (replicate register_count v)) n

  abbrev inside : Machine K.Num → (code : ℕ) → Row K.Num
  inside m code = record { lent = lent; machine = m; code = code; refusal = 0 }

  abbrev outside : Machine K.Num → (code : ℕ) → Row K.Num
  outside m code = record { lent = lent; machine = m; code = code; refusal = 6 }

  -- "the next place is at most the list's length"
  abbrev pub next_rows : List (Row K.Num)
  next_rows = inside (put_buffer (at 4) 0 (waiting 0 0)) 17 ∷ outside (put_buffer (at 5) 0 (waiting 0 0)) 17 ∷ []

  -- "each held place is below it": of a buffer, a station, a store buffer
  abbrev pub place_rows : List (Row K.Num)
  place_rows =
      inside (put_buffer (at 2) 0 (waiting 1 0)) 17
      ∷ outside (put_buffer (at 2) 0 (waiting 2 0)) 17
      ∷ inside (put_buffer (at 2) 5 (full 1 v)) 54
      ∷ outside (put_buffer (at 2) 5 (full 2 v)) 54
      ∷ inside (put_station (at 2) 2 (holding 1 Add (num v) (num v))) 42
      ∷ outside (put_station (at 2) 2 (holding 2 Add (num v) (num v))) 42
      ∷ inside (put_station (at 2) 4 (done 1 v)) 60
      ∷ outside (put_station (at 2) 4 (done 2 v)) 60
      ∷ inside (put_store (at 2) 0 (live 1 0 (num v))) 65
      ∷ outside (put_store (at 2) 0 (live 2 0 (num v))) 65
      ∷ []

  -- "every tag held anywhere names a buffer or station that is not free": buffers 1 and 6, stations 8 and 12 are live, no other is
  abbrev live4 : Machine K.Num
  live4 = put_buffer (put_buffer (put_station (put_station (at 3) 0 (done 0 v)) 4 (done 0 v)) 0 (full 0 v)) 5 (full 0 v)

  abbrev pub name_rows : List (Row K.Num)
  name_rows =
      inside (put_register live4 0 (tag 1)) 49
      ∷ inside (put_register live4 3 (tag 6)) 49
      ∷ inside (put_register live4 1 (tag 8)) 49
      ∷ inside (put_register live4 2 (tag 12)) 49
      ∷ outside (put_register live4 0 (tag 2)) 49
      ∷ outside (put_register live4 3 (tag 5)) 49
      ∷ outside (put_register live4 1 (tag 7)) 49
      ∷ outside (put_register live4 2 (tag 9)) 49
      ∷ outside (put_register live4 0 (tag 0)) 49
      ∷ outside (put_register live4 0 (tag 13)) 49
      ∷ inside (put_station live4 2 (holding 1 Add (tag 1) (tag 12))) 49
      ∷ outside (put_station live4 2 (holding 1 Add (tag 3) (num v))) 49
      ∷ outside (put_station live4 2 (holding 1 Add (num v) (tag 11))) 49
      ∷ inside (put_store live4 2 (live 1 0 (tag 8))) 49
      ∷ outside (put_store live4 2 (live 1 0 (tag 4))) 49
      ∷ []

  -- "a tag held at place q names a buffer of place at most q or a station of place below q"
  abbrev buffer2 : Machine K.Num
  buffer2 = put_buffer (at 4) 0 (full 2 v)

  abbrev station2 : Machine K.Num
  station2 = put_station (at 4) 1 (done 2 v)

  abbrev pub before_rows : List (Row K.Num)
  before_rows =
      inside (put_station buffer2 2 (holding 2 Add (tag 1) (num v))) 49
      ∷ outside (put_station buffer2 2 (holding 1 Add (tag 1) (num v))) 49
      ∷ inside (put_station buffer2 2 (holding 2 Add (num v) (tag 1))) 49
      ∷ outside (put_station buffer2 2 (holding 1 Add (num v) (tag 1))) 49
      ∷ inside (put_store buffer2 0 (live 2 0 (tag 1))) 49
      ∷ outside (put_store buffer2 0 (live 1 0 (tag 1))) 49
      ∷ inside (put_station station2 2 (holding 3 Add (tag 9) (num v))) 57
      ∷ outside (put_station station2 2 (holding 2 Add (tag 9) (num v))) 57
      ∷ inside (put_station station2 2 (holding 3 Add (num v) (tag 9))) 57
      ∷ outside (put_station station2 2 (holding 2 Add (num v) (tag 9))) 57
      ∷ inside (put_store station2 0 (live 3 0 (tag 9))) 57
      ∷ outside (put_store station2 0 (live 2 0 (tag 9))) 57
      -- "For a register's tag only the naming rule applies.": station 9 is of the last place issued
      ∷ inside (put_register (put_station (at 3) 1 (done 2 v)) 0 (tag 9)) 57
      ∷ []

  -- "add stations hold only add and subtract, the other two only multiply and divide"
  abbrev pub kind_rows : List (Row K.Num)
  kind_rows =
      inside (put_station (at 1) 2 (holding 0 Add (num v) (num v))) 42
      ∷ inside (put_station (at 1) 4 (holding 0 Subtract (num v) (num v))) 44
      ∷ inside (put_station (at 1) 0 (holding 0 Multiply (num v) (num v))) 40
      ∷ inside (put_station (at 1) 1 (holding 0 Divide (num v) (num v))) 41
      ∷ outside (put_station (at 1) 1 (holding 0 Add (num v) (num v))) 41
      ∷ outside (put_station (at 1) 0 (holding 0 Subtract (num v) (num v))) 40
      ∷ outside (put_station (at 1) 2 (holding 0 Multiply (num v) (num v))) 42
      ∷ outside (put_station (at 1) 4 (holding 0 Divide (num v) (num v))) 44
      ∷ []

  -- "cells are below 256 and below their area's length"
  abbrev pub cell_rows : List (Row K.Num)
  cell_rows =
      inside (put_buffer (at 1) 1 (waiting 0 1)) 18
      ∷ outside (put_buffer (at 1) 1 (waiting 0 2)) 18
      ∷ inside (put_store (at 1) 1 (live 0 2 (num v))) 66
      ∷ outside (put_store (at 1) 1 (live 0 3 (num v))) 66
      ∷ record { lent = wide; machine = put_buffer (at 1) 1 (waiting 0 255); code = 18; refusal = 0 }
      ∷ record { lent = wide; machine = put_buffer (at 1) 1 (waiting 0 256); code = 18; refusal = 6 }
      ∷ record { lent = wide; machine = put_store (at 1) 1 (live 0 255 (num v)); code = 66; refusal = 0 }
      ∷ record { lent = wide; machine = put_store (at 1) 1 (live 0 256 (num v)); code = 66; refusal = 6 }
      ∷ []

  -- "no two live store buffers have the same cell"
  abbrev stores : (a b c : ℕ) → Machine K.Num
  stores a b c = put_store (put_store (put_store (at 3) 0 (live 0 a (num v))) 1 (live 1 b (num v))) 2 (live 2 c (num v))

  abbrev pub apart_rows : List (Row K.Num)
  apart_rows = inside (stores 0 1 2) 65 ∷ outside (stores 0 0 2) 65 ∷ outside (stores 0 1 0) 65 ∷ outside (stores 0 1 1) 65 ∷ []

  -- in good order, though no run of this list of loads reaches it: a store and a station with no store or arithmetic in the list; one place
  -- in two buffers; a buffer that nobody waits for, with a number that no cell has; places issued with nothing live for them; two registers
  -- that wait for a station of a load's place
  abbrev pub unreached_rows : List (Row K.Num)
  unreached_rows =
      inside (put_store (at 1) 2 (live 0 2 (num v))) 67
      ∷ inside (put_station (at 1) 3 (holding 0 Subtract (num v) (num v))) 43
      ∷ inside (put_buffer (put_buffer (at 1) 0 (waiting 0 0)) 3 (waiting 0 1)) 20
      ∷ inside (put_buffer (at 4) 2 (full 0 (K.apply Add v v))) 51
      ∷ inside (at 3) 0
      ∷ inside (put_register (put_register live4 0 (tag 12)) 1 (tag 12)) 60
      ∷ []

  -- "Order for one step: 1, 6, 5; for an issue at the list's end 7, else 2, 3, 4 for that word, then 7"
  abbrev word : ℕ → Lent K.Num
  word w = record { words = w ∷ []; operands = replicate 2 v; results = 3 }

  abbrev too_long : Lent K.Num
  too_long = record { words = replicate 4097 65536; operands = replicate 2 v; results = 3 }

  -- every slot is taken, by the first of two words
  abbrev busy : Machine K.Num
  busy =
      standing 1 (at 1).registers (replicate buffer_count (full 0 v)) (replicate station_count (done 0 v))
      (live 0 0 (num v) ∷ live 0 1 (num v) ∷ live 0 2 (num v) ∷ [])

  abbrev second : (word refusal : ℕ) → Row K.Num
  second w n = record { lent = record { words = 65536 ∷ w ∷ []; operands = replicate 2 v; results = 3 }; machine = busy; code = 0; refusal = n }

  abbrev pub refusal_rows : List (Row K.Num)
  refusal_rows =
      record { lent = too_long; machine = put_register (at 0) 0 (tag 1); code = 23; refusal = 1 }
      ∷ record { lent = lent; machine = put_register (at 0) 0 (tag 1); code = 23; refusal = 6 }
      ∷ record { lent = lent; machine = at 0; code = 23; refusal = 5 }
      ∷ record { lent = lent; machine = at 4; code = 0; refusal = 7 }
      ∷ record { lent = word 786432; machine = at 1; code = 0; refusal = 7 }
      ∷ record { lent = word 790528; machine = at 0; code = 0; refusal = 2 }
      ∷ record { lent = word 69888; machine = at 0; code = 0; refusal = 3 }
      ∷ record { lent = word 131073; machine = at 0; code = 0; refusal = 3 }
      ∷ record { lent = word 65538; machine = at 0; code = 0; refusal = 4 }
      ∷ record { lent = word 720899; machine = at 0; code = 0; refusal = 4 }
      ∷ second 0 2
      ∷ second 69632 3
      ∷ second 65538 4
      -- LD, AD, ADR, MD, MDR, STD find no slot; LDR needs none
      ∷ second 65536 7
      ∷ second 196608 7
      ∷ second 262144 7
      ∷ second 458752 7
      ∷ second 524288 7
      ∷ second 720896 7
      ∷ second 131072 0
      ∷ []

  abbrev pub given_table : List (Row K.Num)
  given_table =
      next_rows ++ place_rows ++ name_rows ++ before_rows ++ kind_rows ++ cell_rows ++ apart_rows ++ unreached_rows ++ refusal_rows

  -- "Issue, always using the lowest-numbered free one": some slots are taken, and the issue takes the slot whose index stands here
  abbrev some : Machine K.Num
  some = put_store (put_store (put_station (put_station (put_buffer (put_buffer busy 2 free_buffer) 4 free_buffer) 1 free_station) 3 free_station) 1 free_store) 2 free_store

  abbrev pub issue_table : List (IssueRow K.Num)
  issue_table =
      record { word = 65536; machine = some; after = loaded K some 0 0 2 }
      ∷ record { word = 458753; machine = some; after = with_cell K some Multiply 0 1 2 1 }
      ∷ record { word = 204801; machine = some; after = with_cell K some Add 1 1 2 3 }
      ∷ record { word = 393220; machine = some; after = with_register K some Subtract 0 2 3 }
      ∷ record { word = 655366; machine = some; after = with_register K some Divide 0 3 1 }
      ∷ record { word = 720898; machine = some; after = storing K some 0 2 1 }
      ∷ record { word = 65536; machine = at 1; after = loaded K (at 1) 0 0 0 }
      ∷ record { word = 524288; machine = at 1; after = with_register K (at 1) Multiply 0 0 0 }
      ∷ record { word = 262144; machine = at 1; after = with_register K (at 1) Add 0 0 2 }
      ∷ record { word = 720896; machine = at 1; after = storing K (at 1) 0 0 0 }
      ∷ []

  abbrev pub of_word : ℕ → Lent K.Num
  of_word w = record { words = 65536 ∷ w ∷ []; operands = replicate 2 v; results = 3 }

  abbrev pub answers : List (Row K.Num) → List ℕ
  answers rows = map (λ r. (step K r.lent r.machine r.code).refusal) rows

  abbrev pub expected : List (Row K.Num) → List ℕ
  expected rows = map (λ r. r.refusal) rows

  -- THE CLAIMS
  abbrev pub GivenClaim : Type 0
  GivenClaim = answers given_table ≡ expected given_table

  abbrev pub IssueClaim : Type 0
  IssueClaim = map (λ r. step K (of_word r.word) r.machine 0) issue_table ≡ map (λ r. taken r.after) issue_table
