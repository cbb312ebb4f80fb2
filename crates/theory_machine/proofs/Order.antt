-- Good order, and the lengths of the rows, are kept by every move.
use mathlib.Core.Path.{◌≡◌, refl, sym, ap, ◌∙◌, subst}
use mathlib.Core.Bool.{true}
use mathlib.Core.Option.{some}
use mathlib.Core.Logic.{◌≢◌}
use mathlib.Core.List.{List, map}
use Prim.Native.Nat.{ℕ, suc, ◌≤◌, ◌<◌}
use native.Mathlib.Omega.{arith}
use lib.ListN.{length, get_or, set, get_or-map, length-set, length-map}
use lib.Seq.{get_or-set_other}
use borrow.Author.Tests.{ltb-true, leb-true, lt-ltb, le-leb}
use Rattle.theory_machine.specs.Tags.{buffer_tag, station_tag}
use Rattle.theory_machine.specs.Instruction.{Instruction, no_instruction, load, store, copy, cell_arithmetic, register_arithmetic}
use Rattle.theory_machine.specs.Machine.{Kind, Lent, areas_of, StoreBuffer, free_store, live, Machine, Shape, register_at, store_cell}
use Rattle.theory_machine.specs.GoodOrder.{Giver, nobody, from_buffer, from_station, before}
use Rattle.theory_machine.specs.Issue.{Answer, instruction_at}
use Rattle.theory_machine.specs.Steps.{give_store, perform, in_order}
use Rattle.theory_machine.specs.Statement.{GoodOrderKept}
use Rattle.theory_machine.proofs.Rows.{set_all}
use Rattle.theory_machine.proofs.Words.{WellFormed}
use Rattle.theory_machine.proofs.Holds.{Holder, register, sink, source, stored, Laws, Inv, arrival_keeps, completion_keeps, buffer_grant_keeps, station_grant_keeps, release_keeps}
use Rattle.theory_machine.proofs.Issue.{no_store_lem, Room, issued, Enough, Widens, Issues, issue_keeps}
use Rattle.theory_machine.proofs.Moves.{Reply, leaves, does, of_perform, Move, issuing, arriving, completing, granting_buffer, granting_station, releasing, moved, step-view}
use Rattle.theory_machine.proofs.GoodOrder.{Distinct, seat, orderly, Good, good_of, of_good}

module _ (K : Kind) (L : Lent K.Num) where
  laws : (n : ℕ) → Laws K L (orderly K L n)
  laws n = record {
    arrives = λ p c h. h.0;
    completes = λ i p o x y h a b. h.0;
    buffer_gives = λ p v h k g. tt;
    station_gives = λ p v h k g. tt;
  }

  -- what stands before a place stands before a later one
  before-later : (q r : ℕ) → q ≤ r → (g : Giver) → before q g ≡ true → before r g ≡ true
  before-later q r l nobody e = refl
  before-later q r l (from_buffer p) e = le-leb p r (omega (arith, leb-true p q e))
  before-later q r l (from_station p) e = lt-ltb p r (omega (arith, ltb-true p q e))

  later : (n : ℕ) (h k : Holder) → seat n h ≤ seat (suc n) k → Enough K (orderly K L n) (orderly K L (suc n)) h k
  later n h k l = record { givers = before-later (seat n h) (seat (suc n) k) l; numbers = λ u _. tt }

  widens : (n : ℕ) → Widens K (orderly K L n) (orderly K L (suc n))
  widens n = record {
    on_waiting = λ p c h. (omega (arith, h.0), h.1);
    on_full = λ p v h. omega arith;
    on_holding = λ i p o h. (omega (arith, h.0), h.1);
    on_done = λ p v h. omega arith;
    on_live = λ p c h. (omega (arith, h.0), h.1);
    on_sink = λ p. later n (sink p) (sink p) (omega arith);
    on_source = λ p. later n (source p) (source p) (omega arith);
    on_stored = λ p. later n (stored p) (stored p) (omega arith);
  }

  issues : (q : ℕ) (i : Instruction) → WellFormed (areas_of L) i → Issues K (orderly K L q) (orderly K L (suc q)) q i
  issues q no_instruction w = tt
  issues q (load r c) w = ((omega arith, w.1), le-leb q (suc q) (omega arith), λ j d. later q (register j) (register j) (omega arith))
  issues q (copy r x) w = (later q (register x) (register r) (omega arith), λ j d. later q (register j) (register j) (omega arith))
  issues q (cell_arithmetic o r c) w = (
    record {
      holds = λ i h. (omega arith, h);
      sinks = later q (register r) (sink q) (omega arith);
      gives = lt-ltb q (suc q) (omega arith);
      others = λ j d. later q (register j) (register j) (omega arith);
    },
    (omega arith, w.1),
    le-leb q q (omega arith),
  )
  issues q (register_arithmetic o r x) w = (
    record {
      holds = λ i h. (omega arith, h);
      sinks = later q (register r) (sink q) (omega arith);
      gives = lt-ltb q (suc q) (omega arith);
      others = λ j d. later q (register j) (register j) (omega arith);
    },
    later q (register x) (source q) (omega arith),
  )
  issues q (store r c) w =
      ((omega arith, w.1), later q (register r) (stored q) (omega arith), λ j. later q (register j) (register j) (omega arith))

  -- THE ROWS KEEP THEIR LENGTHS

  abbrev shaped : {m : Machine K.Num} → Shape m → (n : Machine K.Num) → length n.registers ≡ length m.registers
      → length n.buffers ≡ length m.buffers → length n.stations ≡ length m.stations → length n.stores ≡ length m.stores → Shape n
  shaped S n a b c d = record {
    four_registers = a ∙ S.four_registers;
    six_buffers = b ∙ S.six_buffers;
    five_stations = c ∙ S.five_stations;
    three_stores = d ∙ S.three_stores;
  }

  shape-issued : (m : Machine K.Num) → Shape m → (i : Instruction) (b s t : ℕ) → Shape (issued K m i b s t)
  shape-issued m S no_instruction b s t = S
  shape-issued m S (load r c) b s t = shaped S (issued K m (load r c) b s t) (simp length-set) (simp length-set) refl refl
  shape-issued m S (copy r x) b s t = shaped S (issued K m (copy r x) b s t) (simp length-set) refl refl refl
  shape-issued m S (cell_arithmetic o r c) b s t =
      shaped S (issued K m (cell_arithmetic o r c) b s t) (simp length-set) (simp length-set) (simp length-set) refl
  shape-issued m S (register_arithmetic o r x) b s t =
      shaped S (issued K m (register_arithmetic o r x) b s t) (simp length-set) refl (simp length-set) refl
  shape-issued m S (store r c) b s t = shaped S (issued K m (store r c) b s t) refl refl refl (simp length-set)

  pub shape_moved : (m : Machine K.Num) → Shape m → (v : Move K L m) → Shape (moved K L m v)
  shape_moved m S (issuing b s t h r w) = shape-issued m S (instruction_at K L m.next) b s t
  shape_moved m S (arriving i p c h e) = shaped S (moved K L m (arriving i p c h e)) refl (simp length-set) refl refl
  shape_moved m S (completing i p o x y h e) = shaped S (moved K L m (completing i p o x y h e)) refl refl (simp length-set) refl
  shape_moved m S (granting_buffer i p v h e) =
      shaped S (moved K L m (granting_buffer i p v h e)) (simp length-map) (simp length-set) (simp length-map) (simp length-map)
  shape_moved m S (granting_station i p v h e) =
      shaped S (moved K L m (granting_station i p v h e)) (simp length-map) refl (simp (length-set, length-map)) (simp length-map)
  shape_moved m S (releasing i p c v h e) = shaped S (moved K L m (releasing i p c v h e)) refl refl refl (simp length-set)

  -- STORE BUFFERS STAY APART

  -- a grant alters no store buffer's cell
  pub cell-given : (t : ℕ) (v : K.Num) (ts : List (StoreBuffer K.Num)) (i : ℕ)
      → store_cell (get_or (map (give_store t v) ts) i free_store) ≡ store_cell (get_or ts i free_store)
  cell-given t v ts i = ap store_cell (get_or-map (give_store t v) ts i free_store) ∙ one (get_or ts i free_store)
    where
      one : (s : StoreBuffer K.Num) → store_cell (give_store t v s) ≡ store_cell s
      one free_store = refl
      one (live p c x) = refl

  distinct-given : (t : ℕ) (v : K.Num) (ts : List (StoreBuffer K.Num)) → Distinct ts → Distinct (map (give_store t v) ts)
  distinct-given t v ts d i j c n p q = d i j c n (sym (cell-given t v ts i) ∙ p) (sym (cell-given t v ts j) ∙ q)

  -- a store buffer takes a cell that no live one has, or none
  distinct-set : (ts : List (StoreBuffer K.Num)) (k : ℕ) (s : StoreBuffer K.Num) → Distinct ts
      → ((c : ℕ) → store_cell s ≡ some c → (j : ℕ) → store_cell (get_or ts j free_store) ≢ some c) → Distinct (set ts k s)
  distinct-set ts k s d f i j c n =
      set_all (λ i x. i ≢ j → store_cell x ≡ some c → store_cell (get_or (set ts k s) j free_store) ≡ some c → ⊥) free_store ts k s
      (λ i n p. set_all (λ j y. i ≢ j → store_cell y ≡ some c → ⊥) free_store ts k s (λ j n q. d i j c n p q) (λ n q. f c q i p) j n)
      (λ n p q. f c p j (rw (get_or-set_other ts k j s free_store (λ e. n (sym e))) at q)) i n

  -- GOOD ORDER, move by move

  good-issued : (m : Machine K.Num) → Shape m → Good K L m → (i : Instruction) (b s t : ℕ) → m.next < length L.words → Room m i b s t
      → Inv K (orderly K L (suc m.next)) (issued K m i b s t) → Good K L (issued K m i b s t)
  good-issued m S g no_instruction b s t l r k = absurd r
  good-issued m S g (load x c) b s t l r k = record { fits = l; inv = k; distinct = g.distinct }
  good-issued m S g (copy x y) b s t l r k = record { fits = l; inv = k; distinct = g.distinct }
  good-issued m S g (cell_arithmetic o x c) b s t l r k = record { fits = l; inv = k; distinct = g.distinct }
  good-issued m S g (register_arithmetic o x y) b s t l r k = record { fits = l; inv = k; distinct = g.distinct }
  good-issued m S g (store x c) b s t l r k = record {
    fits = l;
    inv = k;
    distinct = distinct-set m.stores t (live m.next c (register_at K m x)) g.distinct (λ d e j q. no_store_lem m S c r.1.2 j (cc));
  }

  pub good_moved : (m : Machine K.Num) → Shape m → Good K L m → (v : Move K L m) → Good K L (moved K L m v)
  good_moved m S g (issuing b s t h r w) =
      let i : Instruction = instruction_at K L m.next in
      good-issued m S g i b s t h r
      (issue_keeps K (orderly K L m.next) (orderly K L (suc m.next)) (widens m.next) m S g.inv i b s t r (issues m.next i w))
  good_moved m S g (arriving i p c h e) =
      record { fits = g.fits; inv = arrival_keeps K L (orderly K L m.next) (laws m.next) m g.inv i p c e; distinct = g.distinct }
  good_moved m S g (completing i p o x y h e) =
      record { fits = g.fits; inv = completion_keeps K L (orderly K L m.next) (laws m.next) m g.inv i p o x y e; distinct = g.distinct }
  good_moved m S g (granting_buffer i p v h e) = record {
    fits = g.fits;
    inv = buffer_grant_keeps K L (orderly K L m.next) (laws m.next) m g.inv i p v h e;
    distinct = distinct-given (buffer_tag i) v m.stores g.distinct;
  }
  good_moved m S g (granting_station i p v h e) = record {
    fits = g.fits;
    inv = station_grant_keeps K L (orderly K L m.next) (laws m.next) m g.inv i p v h e;
    distinct = distinct-given (station_tag i) v m.stores g.distinct;
  }
  good_moved m S g (releasing i p c v h e) = record {
    fits = g.fits;
    inv = release_keeps K L (orderly K L m.next) (laws m.next) m g.inv i;
    distinct = distinct-set m.stores i free_store g.distinct (λ d q. absurd (let z : ◌≡◌ {A = ℕ} 0 1 = cc in omega arith));
  }

  -- a step has rows as long as before, whatever it answers
  pub shape_performed : (m : Machine K.Num) → Shape m → (code : ℕ) → Shape (perform K L m code).machine
  shape_performed m S code = go (of_perform K L m code)
    where
      go : {a : Answer K.Num} → Reply K L m a → Shape a.machine
      go (leaves h p q) = rw p S
      go (does v e p q) = rw p at (shape_moved m S v)

  -- THEOREM: good order is kept by every accepted step
  pub good_order_kept_lem : GoodOrderKept K L
  good_order_kept_lem m S code z =
      let a = step-view K L m code z in
      let v : Move K L m = a.move in
      let S' : Shape (moved K L m v) = shape_moved m S v in
      subst (λ (k : Machine K.Num). Shape k × (in_order K L k ≡ true)) a.machine_is
      (S', of_good K L (moved K L m v) S' (good_moved m S (good_of K L m S a.ordered) v))
