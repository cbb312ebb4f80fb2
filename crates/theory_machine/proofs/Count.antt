-- Every move lowers the count of steps left by exactly one.
use mathlib.Core.Path.{◌≡◌, refl, ap, ◌∙◌}
use mathlib.Core.List.{List, map}
use Prim.Native.Nat.{ℕ, suc, ◌+◌, ◌<◌}
use native.Mathlib.Omega.{arith}
use lib.ListN.{length, drop, length-map, get_or-map}
use lib.Seq.{drop-cons}
use Rattle.theory_machine.specs.Rows.{sum}
use Rattle.theory_machine.specs.Tags.{buffer_tag, station_tag}
use Rattle.theory_machine.specs.Instruction.{Instruction, no_instruction, load, store, copy, cell_arithmetic, register_arithmetic}
use Rattle.theory_machine.specs.Machine.{Kind, Lent, num, tag, free_buffer, waiting, full, Station, free_station, holding, done, StoreBuffer, free_store, live, Machine, Shape, register_at}
use Rattle.theory_machine.specs.Issue.{instruction_at}
use Rattle.theory_machine.specs.Steps.{give_station, give_store, operand_cell}
use Rattle.theory_machine.specs.Count.{instruction_left, words_left, buffer_left, station_left, store_left, count_left}
use Rattle.theory_machine.specs.Entries.{empty_machine}
use Rattle.theory_machine.proofs.Rows.{sum_swap, sum-map}
use Rattle.theory_machine.proofs.Issue.{Room, issued}
use Rattle.theory_machine.proofs.Moves.{Move, issuing, arriving, completing, granting_buffer, granting_station, releasing, moved}

module _ {A : Type 0} (t : ℕ) (v : A) where
  -- a grant leaves the count of every station and store buffer
  station_given : (s : Station A) → station_left (give_station t v s) ≡ station_left s
  station_given free_station = refl
  station_given (holding p o x y) = refl
  station_given (done p r) = refl

  store_given : (s : StoreBuffer A) → store_left (give_store t v s) ≡ store_left s
  store_given free_store = refl
  store_given (live p c x) = refl

  stations-given : (ss : List (Station A)) → sum station_left (map (give_station t v) ss) ≡ sum station_left ss
  stations-given = sum-map station_left (give_station t v) station_given

  stores-given : (ts : List (StoreBuffer A)) → sum store_left (map (give_store t v) ts) ≡ sum store_left ts
  stores-given = sum-map store_left (give_store t v) store_given

module _ (K : Kind) (L : Lent K.Num) where
  abbrev ahead : ℕ → ℕ
  ahead n = words_left (drop n L.words)

  ahead-cons : (n : ℕ) → n < length L.words → ahead n ≡ instruction_left (instruction_at K L n) + ahead (suc n)
  ahead-cons n h = rw (drop-cons L.words n 0 h)

  module _ (m : Machine K.Num) (S : Shape m) where
    issued-left : (i : Instruction) (b s t : ℕ) → Room m i b s t
        → count_left L.words (issued K m i b s t) + 1
        ≡ instruction_left i + ahead (suc m.next) + sum buffer_left m.buffers + sum station_left m.stations + sum store_left m.stores
    unfolding count_left
    issued-left no_instruction b s t r = absurd r
    issued-left (load a c) b s t r =
        omega (arith, sum_swap buffer_left free_buffer m.buffers b free_buffer (waiting m.next c) (omega (arith, r.1.0, S)) r.1.1)
    issued-left (copy a x) b s t r = omega arith
    issued-left (cell_arithmetic o a c) b s t r =
        omega (
          arith,
          sum_swap buffer_left free_buffer m.buffers b free_buffer (waiting m.next c) (omega (arith, r.1.0, S)) r.1.1,
          sum_swap station_left free_station m.stations s free_station (holding m.next o (register_at K m a) (tag (buffer_tag b))) (omega (arith, r.2.0, S)) r.2.1,
        )
    issued-left (register_arithmetic o a x) b s t r =
        omega (
          arith,
          sum_swap station_left free_station m.stations s free_station (holding m.next o (register_at K m a) (register_at K m x)) (omega (arith, r.2.0, S)) r.2.1,
        )
    issued-left (store a c) b s t r =
        omega (arith, sum_swap store_left free_store m.stores t free_store (live m.next c (register_at K m a)) (omega (arith, r.1.0, S)) r.1.1)

    pub left_moved : (v : Move K L m) → count_left L.words (moved K L m v) + 1 ≡ count_left L.words m
    unfolding count_left
    left_moved (issuing b s t h r w) = omega (arith, issued-left (instruction_at K L m.next) b s t r, ahead-cons m.next h)
    left_moved (arriving i p c h e) =
        omega (arith, sum_swap buffer_left free_buffer m.buffers i (waiting p c) (full p (operand_cell K L c)) (omega (arith, S)) e)
    left_moved (completing i p o x y h e) =
        omega (arith, sum_swap station_left free_station m.stations i (holding p o (num x) (num y)) (done p (K.apply o x y)) (omega (arith, S)) e)
    left_moved (granting_buffer i p v h e) =
        omega (
          arith,
          sum_swap buffer_left free_buffer m.buffers i (full p v) free_buffer (omega (arith, S)) e,
          stations-given (buffer_tag i) v m.stations,
          stores-given (buffer_tag i) v m.stores,
        )
    left_moved (granting_station i p v h e) =
        let t : ℕ = station_tag i in
        let ss : List (Station K.Num) = map (give_station t v) m.stations in
        omega (
          arith,
          sum_swap station_left free_station ss i (done p v) free_station (rw (length-map m.stations (give_station t v)) (omega (arith, S)))
              (get_or-map (give_station t v) m.stations i free_station ∙ ap (give_station t v) e),
          stations-given t v m.stations,
          stores-given t v m.stores,
        )
    left_moved (releasing i p c v h e) =
        omega (arith, sum_swap store_left free_store m.stores i (live p c (num v)) free_store (omega (arith, S)) e)

  -- a fresh machine's count is a sum over the list
  pub empty_left : (starts : List K.Num) → count_left L.words (empty_machine starts) ≡ words_left L.words
  unfolding count_left
  empty_left starts = omega arith
