-- Where a machine in good order is not drained some step is permitted; where it is drained none is.
use mathlib.Core.Path.{◌≡◌, refl, ap}
use mathlib.Core.Bool.{Bool, true, false, not, ◌&&◌}
use mathlib.Core.Option.{some}
use mathlib.Core.Logic.{⊎_elim, ◌≢◌}
use Prim.Native.Nat.{ℕ, zero, suc, ◌+◌, ◌≤◌, ◌<◌}
use native.Mathlib.Omega.{arith}
use lib.Dec.{eqb}
use lib.ListN.{length}
use borrow.Author.Tests.{ltb-true, eqb-true, lt-leb, eq-eqb}
use Rattle.numbers.specs.declared.Operation.{Operation}
use Rattle.numbers.specs.declared.Operation.TheVariants.{Add, Subtract, Multiply, Divide}
use Rattle.theory_machine.specs.Rows.{all_below}
use Rattle.theory_machine.specs.Tags.{buffer_count, station_count, store_count, Slot, neither, buffer, station, slot_of, suits}
use Rattle.theory_machine.specs.Instruction.{Instruction, no_instruction, load, store, copy, cell_arithmetic, register_arithmetic}
use Rattle.theory_machine.specs.Machine.{Kind, Lent, areas_of, num, tag, Buffer, free_buffer, waiting, full, Station, free_station, holding, done, StoreBuffer, free_store, live, Machine, Shape, buffer_at, station_at, store_at, is_free_buffer, is_free_station, is_free_store, store_cell}
use Rattle.theory_machine.specs.GoodOrder.{from_station, buffer_giver, station_giver, giver_in, giver, giver_of, has_cell, before, nothing_live, drained}
use Rattle.theory_machine.specs.Issue.{lowest_buffer, lowest_station, lowest_store, cell_live, issue_of, word_at, instruction_at, refusal_of}
use Rattle.theory_machine.specs.Codes.{first_code, last_code, code_table, code_limit}
use Rattle.theory_machine.specs.Steps.{perform_step, perform}
use Rattle.words.proofs.Known.{eqb_cases}
use Rattle.theory_machine.proofs.Rows.{bool_cases, and_l, and_r, and_i, absurd_bool, all_below_of, all_below_not, first_found, row_of}
use Rattle.theory_machine.proofs.Tags.{SlotView, is-buffer, is-station, slot_view}
use Rattle.theory_machine.proofs.Codes.{row_in, code_of, code-limited, of_issue, of_arrival, of_completion, of_buffer_grant, of_station_grant, of_release}
use Rattle.theory_machine.proofs.Words.{WellFormed, word_formed, Passes}
use Rattle.theory_machine.proofs.Holds.{Names, StationOk, StoreOk}
use Rattle.theory_machine.proofs.Moves.{free_buffer_lem, free_station_lem, free_store_lem, Move, issuing, arriving, completing, granting_buffer, granting_station, releasing}
use Rattle.theory_machine.proofs.GoodOrder.{orderly, Good}

module _ (K : Kind) (L : Lent K.Num) (m : Machine K.Num) where
  -- a code from lo on that is permitted: lo is 1 where an issue is not meant
  pub record Goes (lo : ℕ) : Type 0 where
    pub code : ℕ
    pub from : lo ≤ code
    pub known : code < code_limit
    pub permitted : (perform K L m code).refusal ≡ 0

  -- the code of slot i in row k of the table
  by : {lo : ℕ} (k i : ℕ) → k < length code_table → lo ≤ first_code (row_in code_table k) → first_code (row_in code_table k) + i ≤ last_code (row_in code_table k)
      → (perform_step K L m ((row_in code_table k).step i)).refusal ≡ 0 → Goes lo
  unfolding perform
  by k i known l h p = record {
    code = first_code (row_in code_table k) + i;
    from = omega arith;
    known = omega (arith, code-limited k known);
    permitted = rw (code_of k known i h) p;
  }

  buffer-goes : (i : ℕ) → i < buffer_count → (b : Buffer K.Num) → buffer_at m i ≡ b → is_free_buffer b ≡ false → Goes 1
  buffer-goes i h free_buffer e k = absurd_bool refl k
  buffer-goes i h (waiting p c) e k = by of_arrival i (omega arith) (omega arith) (omega arith) (rw e)
  buffer-goes i h (full p v) e k = by of_buffer_grant i (omega arith) (omega arith) (omega arith) (rw e)

  module _ (g : Good K L m) where
    -- every live station of place below n leads to a permitted step
    abbrev StationsBelow : ℕ → Type 0
    StationsBelow n = (i : ℕ) → i < station_count → (p : ℕ) → station_giver (station_at m i) ≡ from_station p → p < n → Goes 1

    -- so does a tag held at place n
    tag-goes : (n : ℕ) → StationsBelow n → (t : ℕ) → Names (λ g. before n g ≡ true) (giver_of m t) → Goes 1
    unfolding giver
    tag-goes n f t k = go (slot_of t) (slot_view t) k
      where
        b-go : (i : ℕ) → i < buffer_count → (b : Buffer K.Num) → buffer_at m i ≡ b → Names (λ g. before n g ≡ true) (buffer_giver b) → Goes 1
        b-go i h free_buffer e k = absurd k
        b-go i h (waiting p c) e k = buffer-goes i h (waiting p c) e refl
        b-go i h (full p v) e k = buffer-goes i h (full p v) e refl

        s-go : (i : ℕ) → i < station_count → (s : Station K.Num) → station_at m i ≡ s → Names (λ g. before n g ≡ true) (station_giver s) → Goes 1
        s-go i h free_station e k = absurd k
        s-go i h (holding p o x y) e k = f i h p (ap station_giver e) (ltb-true p n k)
        s-go i h (done p v) e k = f i h p (ap station_giver e) (ltb-true p n k)

        go : (s : Slot) → SlotView t s → Names (λ g. before n g ≡ true) (giver_in m.buffers m.stations s) → Goes 1
        go neither v k = absurd k
        go (buffer i) (is-buffer h q) k = b-go i h (buffer_at m i) refl k
        go (station i) (is-station h q) k = s-go i h (station_at m i) refl k

    -- the holding station of lowest place waits for no station
    one-station : (n : ℕ) → StationsBelow n → StationsBelow (suc n)
    one-station n f i h p e k = go (station_at m i) refl (g.inv.stations i) e
      where
        less : (q : ℕ) → q ≡ p → StationsBelow q
        less q b i₁ h₁ p₁ e₁ k₁ = f i₁ h₁ p₁ e₁ (omega arith)

        go : (s : Station K.Num) → station_at m i ≡ s → StationOk (orderly K L m.next) (giver_of m) i s → station_giver s ≡ from_station p → Goes 1
        go free_station q w e = absurd (let z : ◌≡◌ {A = ℕ} 0 1 = cc in omega arith)
        go (holding p' o (num x) (num y)) q w e = by of_completion i (omega arith) (omega arith) (omega arith) (rw q)
        go (holding p' o (num x) (tag t)) q w e = tag-goes p' (less p' (cc)) t w.2
        go (holding p' o (tag t) y) q w e = tag-goes p' (less p' (cc)) t w.1
        go (done p' v) q w e = by of_station_grant i (omega arith) (omega arith) (omega arith) (rw q)

    stations-go : (n : ℕ) → StationsBelow n
    stations-go zero = λ i h p e k. absurd (omega arith)
    stations-go (suc n) = one-station n (stations-go n)

    station-goes : (i : ℕ) → i < station_count → (s : Station K.Num) → station_at m i ≡ s → is_free_station s ≡ false → Goes 1
    station-goes i h free_station e k = absurd_bool refl k
    station-goes i h (holding p o x y) e k = stations-go (suc p) i h p (ap station_giver e) (omega arith)
    station-goes i h (done p v) e k = stations-go (suc p) i h p (ap station_giver e) (omega arith)

    store_goes : (i : ℕ) → i < store_count → (s : StoreBuffer K.Num) → store_at m i ≡ s → StoreOk (orderly K L m.next) (giver_of m) s
        → is_free_store s ≡ false → Goes 1
    store_goes i h free_store e w k = absurd_bool refl k
    store_goes i h (live p c (num v)) e w k = by of_release i (omega arith) (omega arith) (omega arith) (rw e)
    store_goes i h (live p c (tag t)) e w k = tag-goes p (stations-go p) t w.1

    -- AS LONG AS ANYTHING IS LIVE a step that is no issue is permitted
    pub busy-goes : nothing_live m ≡ false → Goes 1
    unfolding nothing_live
    busy-goes d =
        ⊎_elim
        (λ (bs : all_below buffer_count bt ≡ true). ⊎_elim
        (λ (ss : all_below station_count st ≡ true). ⊎_elim
        (λ (ts : all_below store_count ct ≡ true). absurd_bool (and_i bs (and_i ss (and_i ts refl))) d)
        (λ (k : all_below store_count ct ≡ false).
        let r = all_below_not store_count ct k in store_goes r.0 r.1 (store_at m r.0) refl (g.inv.stores r.0) r.2)
        (bool_cases (all_below store_count ct)))
        (λ (k : all_below station_count st ≡ false). let r = all_below_not station_count st k in station-goes r.0 r.1 (station_at m r.0) refl r.2)
        (bool_cases (all_below station_count st)))
        (λ (k : all_below buffer_count bt ≡ false). let r = all_below_not buffer_count bt k in buffer-goes r.0 r.1 (buffer_at m r.0) refl r.2)
        (bool_cases (all_below buffer_count bt))
      where
        bt : ℕ → Bool
        bt i = is_free_buffer (buffer_at m i)

        st : ℕ → Bool
        st i = is_free_station (station_at m i)

        ct : ℕ → Bool
        ct i = is_free_store (store_at m i)

-- NOTHING LIVE: every slot is free
pub record Still {A : Type 0} (m : Machine A) : Type 0 where
  pub no_buffer : (i : ℕ) → buffer_at m i ≡ free_buffer
  pub no_station : (i : ℕ) → station_at m i ≡ free_station
  pub no_store : (i : ℕ) → store_at m i ≡ free_store

pub still_is : {A : Type 0} (m : Machine A) → Shape m → nothing_live m ≡ true → Still m
unfolding nothing_live
still_is m S d =
    let b : Bool = all_below buffer_count (λ i. is_free_buffer (buffer_at m i)) in
    let s : Bool = all_below station_count (λ i. is_free_station (station_at m i)) in
    let t : Bool = all_below store_count (λ i. is_free_store (store_at m i)) in
    let e : s && (t && true) ≡ true = and_r b (s && (t && true)) d in
    record {
      no_buffer = λ i. free_buffer_lem (buffer_at m i)
          (row_of (λ i b. is_free_buffer b) free_buffer m.buffers buffer_count S.six_buffers (λ i. refl) (and_l b (s && (t && true)) d) i);
      no_station = λ i. free_station_lem (station_at m i)
          (row_of (λ i s. is_free_station s) free_station m.stations station_count S.five_stations (λ i. refl) (and_l s (t && true) e) i);
      no_store = λ i. free_store_lem (store_at m i)
          (row_of (λ i s. is_free_store s) free_store m.stores store_count S.three_stores (λ i. refl) (and_l t true (and_r s (t && true) e)) i);
    }

module _ {A : Type 0} (list : ℕ) (m : Machine A) where
  pub drained_still : drained list m ≡ true → nothing_live m ≡ true
  unfolding drained
  drained_still d = and_r (eqb m.next list) (nothing_live m) d

  pub drained_end : drained list m ≡ true → m.next ≡ list
  unfolding drained
  drained_end d = eqb-true m.next list (and_l (eqb m.next list) (nothing_live m) d)

  -- not drained, though nothing is live: there is a next word
  pub drained_not : m.next ≤ list → drained list m ≡ false → nothing_live m ≡ true → m.next < list
  unfolding drained
  drained_not l d q =
      ⊎_elim (λ (z : m.next ≡ list). absurd_bool (and_i (eq-eqb m.next list z) q) d) (λ (z : m.next ≢ list). omega arith) (eqb_cases m.next list)

module _ (K : Kind) (L : Lent K.Num) (m : Machine K.Num) where
  -- with every slot free whatever passes the check is issued
  module _ (z : Still m) where
    a-buffer : (i : ℕ) × (lowest_buffer m ≡ some i)
    a-buffer = first_found (λ i. is_free_buffer (buffer_at m i)) 0 buffer_count 0 (omega arith) (omega arith) (rw (z.no_buffer 0))

    a-store : (i : ℕ) × (lowest_store m ≡ some i)
    a-store = first_found (λ i. is_free_store (store_at m i)) 0 store_count 0 (omega arith) (omega arith) (rw (z.no_store 0))

    -- a station of each kind: the first multiplier, the last adder
    a-station : (o : Operation) → (i : ℕ) × (lowest_station m o ≡ some i)
    a-station o = at o (home o).0 (home o).1 (home o).2
      where
        at : (o : Operation) (i : ℕ) → i < station_count → suits i o ≡ true → (i : ℕ) × (lowest_station m o ≡ some i)
        at o i h e = first_found (λ i. suits i o && is_free_station (station_at m i)) 0 station_count i (omega arith) (omega arith) (and_i e (rw (z.no_station i)))

        home : (o : Operation) → (i : ℕ) × (i < station_count) × (suits i o ≡ true)
        home Add = (4, omega arith, refl)
        home Subtract = (4, omega arith, refl)
        home Multiply = (0, omega arith, refl)
        home Divide = (0, omega arith, refl)

    no-live : (c : ℕ) → cell_live m c ≡ false
    no-live c = ap not (all_below_of store_count (λ i. not (has_cell c (store_cell (store_at m i)))) (λ i h. rw (z.no_store i)))

    issue_goes : (i : Instruction) → WellFormed (areas_of L) i → (issue_of K m i).refusal ≡ 0
    issue_goes no_instruction w = absurd w
    issue_goes (load r c) w = rw a-buffer.1
    issue_goes (copy r x) w = refl
    issue_goes (cell_arithmetic o r c) w = rw (a-buffer.1, (a-station o).1)
    issue_goes (register_arithmetic o r x) w = rw (a-station o).1
    issue_goes (store r c) w = rw (no-live c, a-store.1)

    next-goes : Passes K L → m.next < length L.words → Goes K L m 0
    next-goes P h =
        by K L m of_issue 0 (omega arith) (omega arith) (omega arith)
        (rw (lt-leb (length L.words) m.next h, eq-eqb (refusal_of K L (word_at K L m.next)) 0 (P.sound m.next h))
        (issue_goes (instruction_at K L m.next) (word_formed (areas_of L) (word_at K L m.next) (P.sound m.next h))))

  -- UNTIL DRAINED a step is permitted
  pub progress : Passes K L → Shape m → Good K L m → drained (length L.words) m ≡ false → Goes K L m 0
  progress P S g d =
      ⊎_elim
      (λ (q : nothing_live m ≡ true). next-goes (still_is m S q) P (drained_not (length L.words) m g.fits d q))
      (λ (q : nothing_live m ≡ false). let p = busy-goes K L m g q in record { code = p.code; from = omega arith; known = p.known; permitted = p.permitted })
      (bool_cases (nothing_live m))

  -- DRAINED, no move is left
  pub no_move : m.next ≡ length L.words → Still m → Move K L m → ⊥
  no_move q z (issuing b s t h r w) = omega arith
  no_move q z (arriving i p c h e) = let y : ◌≡◌ {A = ℕ} 0 1 = cc (z.no_buffer i) in omega arith
  no_move q z (completing i p o x y h e) = let y : ◌≡◌ {A = ℕ} 0 1 = cc (z.no_station i) in omega arith
  no_move q z (granting_buffer i p v h e) = let y : ◌≡◌ {A = ℕ} 0 1 = cc (z.no_buffer i) in omega arith
  no_move q z (granting_station i p v h e) = let y : ◌≡◌ {A = ℕ} 0 1 = cc (z.no_station i) in omega arith
  no_move q z (releasing i p c v h e) = let y : ◌≡◌ {A = ℕ} 0 1 = cc (z.no_store i) in omega arith
