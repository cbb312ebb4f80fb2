-- The entries that check for themselves, where their checks pass; what is said of any machine.
use mathlib.Core.Path.{◌≡◌, refl, sym, ap, ◌∙◌}
use mathlib.Core.Bool.{Bool, true, false}
use mathlib.Core.Option.{Option, none, some}
use mathlib.Core.Logic.{⊎_elim}
use mathlib.Core.List.{List}
use Prim.Native.Nat.{ℕ, ◌+◌, ◌≤◌, ◌<◌}
use native.Mathlib.Omega.{arith}
use lib.Dec.{ltb, eqb}
use lib.ListN.{length, get_or-map, length-map, drop_of_length-le}
use native.Mathlib.Nat.{le_of_eq}
use borrow.Author.Tests.{ltb-true, ltb-false, eqb-true, le-ltb, eq-eqb, ne_eqb}
use Rattle.words.specs.Instructions.{list_limit}
use Rattle.theory_machine.specs.Rows.{first}
use Rattle.theory_machine.specs.Tags.{register_count, buffer_count, station_count, store_count}
use Rattle.theory_machine.specs.Codes.{code_limit}
use Rattle.theory_machine.specs.Machine.{Kind, Lent, areas_of, num, Buffer, free_buffer, Station, free_station, StoreBuffer, free_store, Machine, Shape, store_cell}
use Rattle.theory_machine.specs.Issue.{is_taken}
use Rattle.theory_machine.specs.Steps.{perform, in_order, step}
use Rattle.theory_machine.specs.Count.{words_left, buffer_left, station_left, store_left, count_left}
use Rattle.theory_machine.specs.OneAtATime.{Run, run_to}
use Rattle.theory_machine.specs.Entries.{empty_machine, list_refusal, refusal_of_entry, lowest_permitted, fresh, one_at_a_time, steps_left, lowest_step}
use Rattle.theory_machine.specs.Statement.{RefusedEntries, Permitted, is_drained, IsLowest}
use Rattle.theory_machine.proofs.Rows.{bool_cases, absurd_bool, IsFirst, first_some, first_none, get_d_all, sum_zero}
use Rattle.theory_machine.proofs.Words.{Passes, passes}
use Rattle.theory_machine.proofs.Checks.{by_list, by_order, both_pass}
use Rattle.theory_machine.proofs.Moves.{step-view}
use Rattle.theory_machine.proofs.GoodOrder.{Good, good_of, of_good}
use Rattle.theory_machine.proofs.Order.{good_order_kept_lem}
use Rattle.theory_machine.proofs.Count.{left_moved, empty_left}
use Rattle.theory_machine.proofs.Progress.{Goes, Still, still_is, drained_still, drained_end, progress, no_move}

module _ (K : Kind) (L : Lent K.Num) where
  -- a step of a machine in good order is performed
  pub step_is : length L.words ≤ list_limit → (m : Machine K.Num) → in_order K L m ≡ true → (code : ℕ) → step K L m code ≡ perform K L m code
  unfolding step
  step_is l m o code = rw (le-ltb list_limit (length L.words) l, o)

  -- A FRESH MACHINE is whole and in good order
  pub empty_shape : (starts : List K.Num) → length starts ≡ register_count → Shape (empty_machine starts)
  empty_shape starts four = record { four_registers = rw length-map four; six_buffers = refl; five_stations = refl; three_stores = refl }

  pub empty_good : (starts : List K.Num) → Good K L (empty_machine starts)
  empty_good starts = record {
    fits = omega arith;
    inv = record {
      registers = λ i. rw (get_or-map num starts i K.nought) tt;
      buffers = λ i. rw (get_d_all {A = Buffer K.Num} buffer_count i free_buffer) tt;
      stations = λ i. rw (get_d_all {A = Station K.Num} station_count i free_station) tt;
      stores = λ i. rw (get_d_all {A = StoreBuffer K.Num} store_count i free_store) tt;
    };
    distinct = λ i j c d p q. let z : ◌≡◌ {A = ℕ} 0 1 = cc (ap store_cell (get_d_all {A = StoreBuffer K.Num} store_count i free_store)) in omega arith;
  }

  -- THE ENTRIES THAT CHECK THE LIST AND THEN 6, by what their check gives
  pub left-refused : (m : Machine K.Num) → (refusal_of_entry K L m ≡ 0 → ⊥) → steps_left K L m ≡ record { refusal = refusal_of_entry K L m; left = 0 }
  unfolding steps_left
  left-refused m n = rw (ne_eqb (refusal_of_entry K L m) 0 n)

  pub left-counted : (m : Machine K.Num) → refusal_of_entry K L m ≡ 0 → steps_left K L m ≡ record { refusal = 0; left = count_left L.words m }
  unfolding steps_left
  left-counted m z = rw (eq-eqb (refusal_of_entry K L m) 0 z, z)

  pub lowest-refused : (m : Machine K.Num) → (refusal_of_entry K L m ≡ 0 → ⊥) → lowest_step K L m ≡ record { refusal = refusal_of_entry K L m; code = none }
  unfolding lowest_step
  lowest-refused m n = rw (ne_eqb (refusal_of_entry K L m) 0 n)

  pub lowest-found : (m : Machine K.Num) → refusal_of_entry K L m ≡ 0 → lowest_step K L m ≡ record { refusal = 0; code = lowest_permitted K L m }
  unfolding lowest_step
  lowest-found m z = rw (eq-eqb (refusal_of_entry K L m) 0 z, z)

  -- WHERE A CHECK FAILS
  pub refused_entries_lem : RefusedEntries K L
  unfolding fresh one_at_a_time step
  refused_entries_lem = (
    λ z. let e : eqb (list_refusal K L) 0 ≡ false = ne_eqb (list_refusal K L) 0 z in
        record {
          of_fresh = λ starts. rw e;
          of_run = λ start. rw e;
          of_steps_left = λ m. rw (← by_list K L.words (areas_of L) m z) (left-refused m (λ e. z (sym (by_list K L.words (areas_of L) m z) ∙ e)));
          of_lowest_step = λ m. rw (← by_list K L.words (areas_of L) m z) (lowest-refused m (λ e. z (sym (by_list K L.words (areas_of L) m z) ∙ e)));
        },
    λ z m o. let e = by_order K L.words (areas_of L) m z o in
        record {
          of_steps_left = rw (← e) (left-refused m (λ z. omega (arith, sym e ∙ z)));
          of_lowest_step = rw (← e) (lowest-refused m (λ z. omega (arith, sym e ∙ z)));
          of_step = λ code. rw (le-ltb list_limit (length L.words) (passes K L z).short, o);
        },
  )

  -- nothing live at the list's end
  still-left : (m : Machine K.Num) → m.next ≡ length L.words → Still m → count_left L.words m ≡ 0
  unfolding count_left
  still-left m e d =
      omega (
        arith,
        ap words_left (drop_of_length-le L.words (le_of_eq (sym e))),
        sum_zero buffer_left free_buffer m.buffers (λ i. ap buffer_left (d.no_buffer i)),
        sum_zero station_left free_station m.stations (λ i. ap station_left (d.no_station i)),
        sum_zero store_left free_store m.stores (λ i. ap store_left (d.no_store i)),
      )

  module _ (z : list_refusal K L ≡ 0) where
    -- WHERE THE CHECKS PASS

    pub fresh-is : (starts : List K.Num) → fresh K L starts ≡ record { refusal = 0; machine = empty_machine starts }
    unfolding fresh
    fresh-is starts = rw (eq-eqb (list_refusal K L) 0 z)

    pub one_at_a_time_is : (start : Run K.Num) → one_at_a_time K L start ≡ record { refusal = 0; run = run_to K L start (length L.words) }
    unfolding one_at_a_time
    one_at_a_time_is start = rw (eq-eqb (list_refusal K L) 0 z)

    pub left_is : (m : Machine K.Num) → in_order K L m ≡ true → steps_left K L m ≡ record { refusal = 0; left = count_left L.words m }
    left_is m o = left-counted m (both_pass K L.words (areas_of L) m z o)

    pub lowest-is : (m : Machine K.Num) → in_order K L m ≡ true → lowest_step K L m ≡ record { refusal = 0; code = lowest_permitted K L m }
    lowest-is m o = lowest-found m (both_pass K L.words (areas_of L) m z o)

    P : Passes K L
    P = passes K L z

    -- THEOREMS

    pub step-goes : (m : Machine K.Num) → Shape m → in_order K L m ≡ true → is_drained K L m ≡ false
        → (code : ℕ) × (code < code_limit) × ((step K L m code).refusal ≡ 0)
    step-goes m S o d =
        let p : Goes K L m 0 = progress K L m P S (good_of K L m S o) d in
        (p.code, p.known, rw (step_is P.short m o p.code) p.permitted)

    pub progress_theorem : (m : Machine K.Num) → Shape m → in_order K L m ≡ true → is_drained K L m ≡ false → (code : ℕ) × Permitted K L m code
    progress_theorem m S o d = let p = step-goes m S o d in (p.0, p.2)

    -- drained, no step is permitted
    pub drained_stops : (m : Machine K.Num) → Shape m → is_drained K L m ≡ true → (code : ℕ) → Permitted K L m code → ⊥
    drained_stops m S d code a =
        no_move K L m (drained_end (length L.words) m d) (still_is m S (drained_still (length L.words) m d)) (step-view K L m code a).move

    pub step-lowers : (m : Machine K.Num) → Shape m → (code : ℕ) → Permitted K L m code
        → (steps_left K L (step K L m code).machine).left + 1 ≡ (steps_left K L m).left
    step-lowers m S code a =
        let v = step-view K L m code a in
        rw (left_is m v.ordered, left_is (step K L m code).machine (good_order_kept_lem K L m S code a).1)
        (rw v.machine_is at (left_moved K L m S v.move))

    pub fresh-count : (starts : List K.Num) → length starts ≡ register_count → (steps_left K L (fresh K L starts).machine).left ≡ words_left L.words
    fresh-count starts four =
        rw (fresh-is starts)
        (ap (λ r. r.left) (left_is (empty_machine starts) (of_good K L (empty_machine starts) (empty_shape starts four) (empty_good starts))) ∙ empty_left K L starts)

    -- drained, nothing is left; and not before
    pub drained-left : (m : Machine K.Num) → Shape m → in_order K L m ≡ true → is_drained K L m ≡ true → (steps_left K L m).left ≡ 0
    drained-left m S o d =
        ap (λ r. r.left) (left_is m o)
        ∙ still-left m (drained_end (length L.words) m d) (still_is m S (drained_still (length L.words) m d))

    pub left-drained : (m : Machine K.Num) → Shape m → in_order K L m ≡ true → (steps_left K L m).left ≡ 0 → is_drained K L m ≡ true
    left-drained m S o e =
        ⊎_elim (λ (d : is_drained K L m ≡ true). d)
        (λ (d : is_drained K L m ≡ false). let p = step-goes m S o d in absurd (omega (arith, step-lowers m S p.0 p.2)))
        (bool_cases (is_drained K L m))

    -- THE LOWEST STEP

    module _ (m : Machine K.Num) (S : Shape m) (o : in_order K L m ≡ true) where
      test : ℕ → Bool
      test code = is_taken (perform K L m code)

      passed : (code : ℕ) → Permitted K L m code → test code ≡ true
      unfolding test
      passed code a = eq-eqb (perform K L m code).refusal 0 (ap (λ b. b.refusal) (sym (step_is P.short m o code)) ∙ a)

      permits : (code : ℕ) → test code ≡ true → Permitted K L m code
      unfolding test
      permits code t = ap (λ b. b.refusal) (step_is P.short m o code) ∙ eqb-true (perform K L m code).refusal 0 t

      looked : (lowest_step K L m).code ≡ first test 0 code_limit
      unfolding lowest_permitted test
      looked = ap (λ r. r.code) (lowest-is m o)

      found : (code : ℕ) → (lowest_step K L m).code ≡ some code → IsFirst test 0 code_limit code
      found code e = first_some test 0 code_limit code (sym looked ∙ e)

      none_of : is_drained K L m ≡ true → (r : Option ℕ) → (lowest_step K L m).code ≡ r → r ≡ none
      none_of d none e = refl
      none_of d (some code) e = absurd (drained_stops m S d code (permits code (found code e).holds))

      pub lowest_theorem : IsLowest K L m
      lowest_theorem = record {
        accepted = ap (λ r. r.refusal) (lowest-is m o);
        permitted = λ code e. permits code (found code e).holds;
        smallest = λ code e j a. ⊎_elim
            (λ (l : ltb j code ≡ true). absurd_bool (passed j a) ((found code e).least j (omega arith) (ltb-true j code l)))
            (λ (l : ltb j code ≡ false). ltb-false j code l) (bool_cases (ltb j code));
        none_if_drained = λ d. none_of d (lowest_step K L m).code refl;
        drained_if_none = λ e. ⊎_elim (λ (d : is_drained K L m ≡ true). d)
            (λ (d : is_drained K L m ≡ false).
            let p = step-goes m S o d in
            absurd_bool (passed p.0 p.2) (first_none test 0 code_limit (sym looked ∙ e) p.0 (omega arith) (omega (arith, p.1))))
            (bool_cases (is_drained K L m));
      }
