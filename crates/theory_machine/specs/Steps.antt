-- Document 01, "Steps": each step, when it is permitted, and what it does. (The codes: Codes.antt.)
use Rattle.std.specs.Prelude.{Bool, cond, not, map, ℕ, ltb, eqb, length, get_or}
use Rattle.std.proofs.Math.Option.{some}
use Rattle.words.specs.Instructions.{list_limit}
use Rattle.theory_machine.specs.Tags.{buffer_tag, station_tag}
use Rattle.theory_machine.specs.Codes.{Step, unknown_code, issue, arrival, completion, buffer_grant, station_grant, release, step_of}
use Rattle.theory_machine.specs.Machine.{Kind, Lent, areas_of, Operand, num, tag, Buffer, free_buffer, waiting, full, Station, free_station, holding, done, StoreBuffer, free_store, live, Machine, registers_are, stations_are, stores_are, put_buffer, put_station, put_store, buffer_at, station_at, store_at}
use Rattle.theory_machine.specs.GoodOrder.{good_order}
use Rattle.theory_machine.specs.Issue.{Answer, refused, taken, issue_next}

module _ {A : Type 0} where
  -- A BUS GRANT: "every register, station and store operand with that tag takes the number"

  abbrev pub give : (t : ℕ) → A → Operand A → Operand A
  give t v (num x) = num x
  give t v (tag u) = cond (eqb u t) (num v) (tag u)

  abbrev pub give_station : (t : ℕ) → A → Station A → Station A
  give_station t v free_station = free_station
  give_station t v (holding p o x y) = holding p o (give t v x) (give t v y)
  give_station t v (done p r) = done p r

  abbrev pub give_store : (t : ℕ) → A → StoreBuffer A → StoreBuffer A
  give_store t v free_store = free_store
  give_store t v (live p c x) = live p c (give t v x)

  abbrev pub granted : Machine A → (t : ℕ) → A → Machine A
  granted m t v =
      stores_are
      (stations_are
      (registers_are m (map (give t v) m.registers))
      (map (give_station t v) m.stations))
      (map (give_store t v) m.stores)

  -- "buffer full"; "the giver is free"
  abbrev pub grant_buffer : Machine A → (i : ℕ) → Buffer A → Answer A
  grant_buffer m i free_buffer = refused m 7
  grant_buffer m i (waiting p c) = refused m 7
  grant_buffer m i (full p v) = taken (put_buffer (granted m (buffer_tag i) v) i free_buffer)

  -- "station done"; "the giver is free"
  abbrev pub grant_station : Machine A → (i : ℕ) → Station A → Answer A
  grant_station m i free_station = refused m 7
  grant_station m i (holding p o x y) = refused m 7
  grant_station m i (done p v) = taken (put_station (granted m (station_tag i) v) i free_station)

  -- "store operand is a number"; "the cell is written; buffer free"
  abbrev pub release_store : Machine A → (i : ℕ) → StoreBuffer A → Answer A
  release_store m i free_store = refused m 7
  release_store m i (live p c (num v)) =
      record { refusal = 0; machine = put_store m i free_store; released = some (record { place = p; cell = c; number = v }) }
  release_store m i (live p c (tag t)) = refused m 7

module _ (K : Kind) (L : Lent K.Num) where
  abbrev pub operand_cell : (c : ℕ) → K.Num
  operand_cell c = get_or L.operands c K.nought

  -- "buffer waiting"; "buffer full with its operand cell's number"
  abbrev pub arrive : Machine K.Num → (i : ℕ) → Buffer K.Num → Answer K.Num
  arrive m i free_buffer = refused m 7
  arrive m i (waiting p c) = taken (put_buffer m i (full p (operand_cell c)))
  arrive m i (full p v) = refused m 7

  -- "station holding two numbers"; "station done with the result"
  abbrev pub complete : Machine K.Num → (i : ℕ) → Station K.Num → Answer K.Num
  complete m i free_station = refused m 7
  complete m i (holding p o (num x) (num y)) = taken (put_station m i (done p (K.apply o x y)))
  complete m i (holding p o (num x) (tag t)) = refused m 7
  complete m i (holding p o (tag t) y) = refused m 7
  complete m i (done p v) = refused m 7

  -- a step, read
  abbrev pub perform_step : Machine K.Num → Step → Answer K.Num
  perform_step m unknown_code = refused m 5
  perform_step m issue = issue_next K L m
  perform_step m (arrival i) = arrive m i (buffer_at m i)
  perform_step m (completion i) = complete m i (station_at m i)
  perform_step m (buffer_grant i) = grant_buffer m i (buffer_at m i)
  perform_step m (station_grant i) = grant_station m i (station_at m i)
  perform_step m (release i) = release_store m i (store_at m i)

  -- one step of a machine that is known to be in good order, with a list that is not too long
  unfoldable pub perform : Machine K.Num → (code : ℕ) → Answer K.Num
  perform m code = perform_step m (step_of code)

  abbrev pub in_order : Machine K.Num → Bool
  in_order m = good_order K L.words (areas_of L) m

  -- ONE STEP: "Order for one step: 1, 6, 5", then the step's own
  unfoldable pub step : Machine K.Num → (code : ℕ) → Answer K.Num
  step m code =
      cond (ltb list_limit (length L.words)) (refused m 1)
      (cond (not (in_order m)) (refused m 6)
      (perform m code))
