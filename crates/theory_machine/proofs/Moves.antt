-- What an accepted step is: one of six moves, with the facts that permitted it. The answers of `step` are taken apart here, and nowhere else.
use mathlib.Core.Path.{◌≡◌, refl}
use mathlib.Core.Bool.{Bool, true, false, not, ◌&&◌}
use mathlib.Core.Option.{Option, none, some}
use mathlib.Core.Logic.{◌≢◌}
use Prim.Native.Nat.{ℕ, ◌<◌}
use native.Mathlib.Omega.{arith}
use lib.Dec.{ltb, leb, eqb}
use lib.ListN.{length}
use borrow.Author.Tests.{leb-false, eqb-true, eqb-false, not-true, not-false}
use Rattle.numbers.specs.declared.Operation.{Operation}
use Rattle.words.specs.Instructions.{list_limit}
use Rattle.theory_machine.specs.Rows.{all_below}
use Rattle.theory_machine.specs.Tags.{buffer_count, station_count, store_count, suits}
use Rattle.theory_machine.specs.Instruction.{Instruction, no_instruction, load, store, copy, cell_arithmetic, register_arithmetic}
use Rattle.theory_machine.specs.Machine.{Kind, Lent, areas_of, num, tag, Buffer, free_buffer, waiting, full, Station, free_station, holding, done, StoreBuffer, free_store, live, Machine, Record, buffer_at, station_at, store_at, is_free_buffer, is_free_station, is_free_store, store_cell}
use Rattle.theory_machine.specs.GoodOrder.{has_cell}
use Rattle.theory_machine.specs.Issue.{Answer, refused, taken, lowest_buffer, lowest_station, lowest_store, cell_live, with_slot, with_both, loaded, with_cell, with_register, storing, issue_of, word_at, instruction_at, refusal_of, issue_next}
use Rattle.theory_machine.specs.Codes.{Step, unknown_code, issue, arrival, completion, buffer_grant, station_grant, release, step_of}
use Rattle.theory_machine.specs.Steps.{grant_buffer, grant_station, release_store, arrive, complete, perform_step, perform, in_order, step}
use Rattle.theory_machine.specs.Statement.{RefusedChangesNothing}
use Rattle.theory_machine.proofs.Rows.{cond_cases, and_l, and_r, absurd_bool, all_below-at, first_some}
use Rattle.theory_machine.proofs.Codes.{InRange, in_range}
use Rattle.theory_machine.proofs.Words.{WellFormed, word_formed}
use Rattle.theory_machine.proofs.Issue.{BufferRoom, StationRoom, StoreRoom, Room, issued}

module _ {A : Type 0} where
  -- FREE SLOTS

  pub free_buffer_lem : (b : Buffer A) → is_free_buffer b ≡ true → b ≡ free_buffer
  free_buffer_lem free_buffer e = refl
  free_buffer_lem (waiting p c) e = absurd_bool e refl
  free_buffer_lem (full p v) e = absurd_bool e refl

  pub free_station_lem : (s : Station A) → is_free_station s ≡ true → s ≡ free_station
  free_station_lem free_station e = refl
  free_station_lem (holding p o x y) e = absurd_bool e refl
  free_station_lem (done p v) e = absurd_bool e refl

  pub free_store_lem : (s : StoreBuffer A) → is_free_store s ≡ true → s ≡ free_store
  free_store_lem free_store e = refl
  free_store_lem (live p c x) e = absurd_bool e refl

  module _ (m : Machine A) where
    a-buffer : (b : ℕ) → lowest_buffer m ≡ some b → BufferRoom m b
    a-buffer b q = let f = first_some (λ i. is_free_buffer (buffer_at m i)) 0 buffer_count b q in (omega (arith, f.high), free_buffer_lem (buffer_at m b) f.holds)

    a-station : (o : Operation) (s : ℕ) → lowest_station m o ≡ some s → StationRoom m o s
    a-station o s q =
        let f = first_some (λ i. suits i o && is_free_station (station_at m i)) 0 station_count s q in (
          omega (arith, f.high),
          free_station_lem (station_at m s) (and_r (suits s o) (is_free_station (station_at m s)) f.holds),
          and_l (suits s o) (is_free_station (station_at m s)) f.holds,
        )

    not-cell : (c : ℕ) (o : Option ℕ) → not (has_cell c o) ≡ true → o ≢ some c
    not-cell c none q z = absurd (let y : ◌≡◌ {A = ℕ} 0 1 = cc in omega arith)
    not-cell c (some k) q z = eqb-false k c (not-true (eqb k c) q) (cc)

    a-store : (c t : ℕ) → cell_live m c ≡ false → lowest_store m ≡ some t → StoreRoom m c t
    a-store c t e q =
        let f = first_some (λ i. is_free_store (store_at m i)) 0 store_count t q in
        let p : ℕ → Bool = λ i. not (has_cell c (store_cell (store_at m i))) in (
          omega (arith, f.high),
          free_store_lem (store_at m t) f.holds,
          λ j h. not-cell c (store_cell (store_at m j)) (all_below-at store_count p (not-false (all_below store_count p) e) j h),
        )

module _ (K : Kind) (L : Lent K.Num) where
  -- MOVES

  pub data Move (m : Machine K.Num) : Type 0 where
    issuing : (b s t : ℕ) → m.next < length L.words → Room m (instruction_at K L m.next) b s t
        → WellFormed (areas_of L) (instruction_at K L m.next) → Move m
    arriving : (i p c : ℕ) → i < buffer_count → buffer_at m i ≡ waiting p c → Move m
    completing : (i p : ℕ) (o : Operation) (x y : K.Num) → i < station_count → station_at m i ≡ holding p o (num x) (num y) → Move m
    granting_buffer : (i p : ℕ) (v : K.Num) → i < buffer_count → buffer_at m i ≡ full p v → Move m
    granting_station : (i p : ℕ) (v : K.Num) → i < station_count → station_at m i ≡ done p v → Move m
    releasing : (i p c : ℕ) (v : K.Num) → i < store_count → store_at m i ≡ live p c (num v) → Move m

  -- what the definitions answer to each
  abbrev pub answered : (m : Machine K.Num) → Move m → Answer K.Num
  answered m (issuing b s t h r w) = taken (issued K m (instruction_at K L m.next) b s t)
  answered m (arriving i p c h e) = arrive K L m i (waiting p c)
  answered m (completing i p o x y h e) = complete K L m i (holding p o (num x) (num y))
  answered m (granting_buffer i p v h e) = grant_buffer m i (full p v)
  answered m (granting_station i p v h e) = grant_station m i (done p v)
  answered m (releasing i p c v h e) = release_store m i (live p c (num v))

  abbrev pub moved : (m : Machine K.Num) → Move m → Machine K.Num
  moved m v = (answered m v).machine

  abbrev pub effect : (m : Machine K.Num) → Move m → Option (Record K.Num)
  effect m v = (answered m v).released

  -- WHAT AN ANSWER IS: refused, with the machine as given and nothing released; or that of a move
  pub data Reply (m : Machine K.Num) (a : Answer K.Num) : Type 0 where
    leaves : a.refusal ≢ 0 → a.machine ≡ m → a.released ≡ none → Reply m a
    does : (v : Move m) → a.refusal ≡ 0 → moved m v ≡ a.machine → effect m v ≡ a.released → Reply m a

  module _ (m : Machine K.Num) where
    no : (n : ℕ) → n ≢ 0 → Reply m (refused m n)
    no n h = leaves h refl refl

    not-now : Reply m (refused m 7)
    not-now = no 7 (omega arith)

    of-arrival : (i : ℕ) → i < buffer_count → (x : Buffer K.Num) → buffer_at m i ≡ x → Reply m (arrive K L m i x)
    of-arrival i h free_buffer q = not-now
    of-arrival i h (waiting p c) q = does (arriving i p c h q) refl refl refl
    of-arrival i h (full p v) q = not-now

    of-completion : (i : ℕ) → i < station_count → (x : Station K.Num) → station_at m i ≡ x → Reply m (complete K L m i x)
    of-completion i h free_station q = not-now
    of-completion i h (holding p o (num x) (num y)) q = does (completing i p o x y h q) refl refl refl
    of-completion i h (holding p o (num x) (tag t)) q = not-now
    of-completion i h (holding p o (tag t) y) q = not-now
    of-completion i h (done p v) q = not-now

    of-buffer-grant : (i : ℕ) → i < buffer_count → (x : Buffer K.Num) → buffer_at m i ≡ x → Reply m (grant_buffer m i x)
    of-buffer-grant i h free_buffer q = not-now
    of-buffer-grant i h (waiting p c) q = not-now
    of-buffer-grant i h (full p v) q = does (granting_buffer i p v h q) refl refl refl

    of-station-grant : (i : ℕ) → i < station_count → (x : Station K.Num) → station_at m i ≡ x → Reply m (grant_station m i x)
    of-station-grant i h free_station q = not-now
    of-station-grant i h (holding p o x y) q = not-now
    of-station-grant i h (done p v) q = does (granting_station i p v h q) refl refl refl

    of-release : (i : ℕ) → i < store_count → (x : StoreBuffer K.Num) → store_at m i ≡ x → Reply m (release_store m i x)
    of-release i h free_store q = not-now
    of-release i h (live p c (num v)) q = does (releasing i p c v h q) refl refl refl
    of-release i h (live p c (tag t)) q = not-now

    -- an issue: no slot, or its slots
    data Issues (i : Instruction) (a : Answer K.Num) : Type 0 where
      none_free : a.refusal ≢ 0 → a.machine ≡ m → a.released ≡ none → Issues i a
      found : (b s t : ℕ) → Room m i b s t → a.refusal ≡ 0 → issued K m i b s t ≡ a.machine → none ≡ a.released → Issues i a

    full-up : (i : Instruction) → Issues i (refused m 7)
    full-up i = none_free (omega arith) refl refl

    one-slot : (i : Instruction) (o : Option ℕ) (k : ℕ → Machine K.Num) → ((j : ℕ) → o ≡ some j → Issues i (taken (k j))) → Issues i (with_slot m o k)
    one-slot i none k f = full-up i
    one-slot i (some j) k f = f j refl

    two-slots : (i : Instruction) (o p : Option ℕ) (k : ℕ → ℕ → Machine K.Num)
        → ((j l : ℕ) → o ≡ some j → p ≡ some l → Issues i (taken (k j l))) → Issues i (with_both m o p k)
    two-slots i none p k f = full-up i
    two-slots i (some j) p k f = one-slot i p (k j) (λ l e. f j l refl e)

    of-instruction : (i : Instruction) → WellFormed (areas_of L) i → Issues i (issue_of K m i)
    of-instruction no_instruction w = absurd w
    of-instruction (load r c) w =
        one-slot (load r c) (lowest_buffer m) (λ b. loaded K m r c b) (λ b e. found b 0 0 (w.0, a-buffer m b e) refl refl refl)
    of-instruction (copy r x) w = found 0 0 0 w refl refl refl
    of-instruction (cell_arithmetic o r c) w =
        two-slots (cell_arithmetic o r c) (lowest_buffer m) (lowest_station m o) (λ b s. with_cell K m o r c b s)
        (λ b s e f. found b s 0 (w.0, a-buffer m b e, a-station m o s f) refl refl refl)
    of-instruction (register_arithmetic o r x) w =
        one-slot (register_arithmetic o r x) (lowest_station m o) (λ s. with_register K m o r x s)
        (λ s e. found 0 s 0 (w.0, w.1, a-station m o s e) refl refl refl)
    of-instruction (store r c) w =
        cond_cases (Issues (store r c)) (cell_live m c) (λ _. full-up (store r c))
        (λ n. one-slot (store r c) (lowest_store m) (λ t. storing K m r c t) (λ t e. found 0 0 t (w.0, a-store m c t n e) refl refl refl))

    of-issue : Reply m (issue_next K L m)
    of-issue =
        let q : ℕ = m.next in
        let n : ℕ = refusal_of K L (word_at K L q) in
        cond_cases (Reply m) (leb (length L.words) q) (λ _. not-now)
        (λ l. cond_cases (Reply m) (not (eqb n 0)) (λ k. no n (eqb-false n 0 (not-true (eqb n 0) k)))
        (λ k. go (leb-false (length L.words) q l)
        (word_formed (areas_of L) (word_at K L q) (eqb-true n 0 (not-false (eqb n 0) k)))))
      where
        go : m.next < length L.words → WellFormed (areas_of L) (instruction_at K L m.next)
            → Reply m (issue_of K m (instruction_at K L m.next))
        go l w = turn (of-instruction (instruction_at K L m.next) w)
          where
            turn : {a : Answer K.Num} → Issues (instruction_at K L m.next) a → Reply m a
            turn (none_free h p q) = leaves h p q
            turn (found b s t r z p q) = does (issuing b s t l r w) z p q

    of-step : (s : Step) → InRange s → Reply m (perform_step K L m s)
    of-step unknown_code h = no 5 (omega arith)
    of-step issue h = of-issue
    of-step (arrival i) h = of-arrival i h (buffer_at m i) refl
    of-step (completion i) h = of-completion i h (station_at m i) refl
    of-step (buffer_grant i) h = of-buffer-grant i h (buffer_at m i) refl
    of-step (station_grant i) h = of-station-grant i h (station_at m i) refl
    of-step (release i) h = of-release i h (store_at m i) refl

    pub of_perform : (code : ℕ) → Reply m (perform K L m code)
    unfolding perform
    of_perform code = of-step (step_of code) (in_range code)

    of_code : (code : ℕ) → Reply m (step K L m code)
    unfolding step
    of_code code =
        cond_cases (Reply m) (ltb list_limit (length L.words)) (λ _. no 1 (omega arith))
        (λ _. cond_cases (Reply m) (not (in_order K L m)) (λ _. no 6 (omega arith)) (λ _. of_perform code))

    -- AN ACCEPTED STEP: the machine was in good order, and the answer is that of a move
    pub record Accepted (a : Answer K.Num) : Type 0 where
      pub move : Move m
      pub machine_is : moved m move ≡ a.machine
      pub released_is : effect m move ≡ a.released
      pub ordered : in_order K L m ≡ true

    step-ordered : (code : ℕ) → (step K L m code).refusal ≡ 0 → in_order K L m ≡ true
    unfolding step
    step-ordered code =
        let Q : Answer K.Num → Type 0 = λ a. a.refusal ≡ 0 → in_order K L m ≡ true in
        cond_cases Q (ltb list_limit (length L.words)) (λ _ z. absurd (omega arith))
        (λ _. cond_cases Q (not (in_order K L m)) (λ _ z. absurd (omega arith)) (λ o _. not-false (in_order K L m) o))

    pub step-view : (code : ℕ) → (step K L m code).refusal ≡ 0 → Accepted (step K L m code)
    step-view code z = go (of_code code) z
      where
        go : {a : Answer K.Num} → Reply m a → a.refusal ≡ 0 → Accepted a
        go (leaves h p q) e = absurd (h e)
        go (does v e p q) _ = record { move = v; machine_is = p; released_is = q; ordered = step-ordered code z }

  -- THEOREM: a refused step leaves the machine as given and releases nothing
  pub refused_changes_nothing_lem : RefusedChangesNothing K L
  refused_changes_nothing_lem m code = go (of_code m code)
    where
      go : {a : Answer K.Num} → Reply m a → a.refusal ≢ 0 → (a.machine ≡ m) × (a.released ≡ none)
      go (leaves h p q) n = (p, q)
      go (does v e p q) n = absurd (n e)
