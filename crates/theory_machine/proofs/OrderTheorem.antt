-- THE ORDER THEOREM: whatever codes are asked for, in whatever order.
use mathlib.Core.Path.{◌≡◌, refl, sym, ap, ◌∙◌, subst}
use mathlib.Core.Bool.{true, cond}
use mathlib.Core.Option.{Option, none, some, none-ne-some}
use mathlib.Core.Logic.{⊎_elim, ◌≢◌}
use mathlib.Core.List.{List, [], ◌∷◌, map}
use Prim.Native.Nat.{ℕ, ◌+◌}
use native.Mathlib.Omega.{arith}
use lib.ListN.{length, get_or-map, length-map}
use lib.Seq.{ext_get_or}
use borrow.Author.Tests.{le-ltb, eq-eqb, ne_eqb}
use Rattle.theory_machine.specs.Rows.{Every}
use Rattle.theory_machine.specs.Tags.{register_count, buffer_count, station_count, store_count, Slot, neither, buffer, station, slot_of}
use Rattle.theory_machine.specs.Machine.{Kind, Lent, Operand, num, tag, Buffer, free_buffer, Station, free_station, StoreBuffer, free_store, live, Machine, Shape, Record, register_at, store_cell}
use Rattle.theory_machine.specs.GoodOrder.{nobody, giver_in, giver, giver_of}
use Rattle.theory_machine.specs.Issue.{is_taken}
use Rattle.theory_machine.specs.Steps.{in_order, step}
use Rattle.theory_machine.specs.OneAtATime.{Run, value, run_to}
use Rattle.theory_machine.specs.Entries.{Fresh, OneAtATime, empty_machine, list_refusal, steps_left}
use Rattle.theory_machine.specs.Asked.{State, written, logged, written_all, ask, asked, taken_of, begin}
use Rattle.theory_machine.specs.Statement.{is_drained, OfStore, OrderTheorem}
use Rattle.words.proofs.Known.{eqb_cases}
use Rattle.theory_machine.proofs.Rows.{get_d_all, every_snoc}
use Rattle.theory_machine.proofs.Holds.{register, Held, StoreOk}
use Rattle.theory_machine.proofs.Moves.{Move, issuing, arriving, completing, granting_buffer, granting_station, releasing, moved, effect, step-view, refused_changes_nothing_lem}
use Rattle.theory_machine.proofs.GoodOrder.{orderly, Good, of_good}
use Rattle.theory_machine.proofs.Order.{shape_moved, good_moved}
use Rattle.theory_machine.proofs.Progress.{Still, still_is, drained_still, drained_end}
use Rattle.theory_machine.proofs.Right.{right, registers_kept, cells_kept}
use Rattle.theory_machine.proofs.Cells.{Right, right_moved}
use Rattle.theory_machine.proofs.Log.{written_snoc, Balanced, balanced_moved, at_most_once_lem, each_once_lem}
use Rattle.theory_machine.proofs.Entries.{empty_shape, empty_good, fresh-is, one_at_a_time_is, progress_theorem, step-lowers, fresh-count, drained-left}

module _ (K : Kind) (L : Lent K.Num) (start : Run K.Num) where
  -- WHAT HOLDS THROUGHOUT, of machine, cells and log
  pub record Sound (m : Machine K.Num) (cells : List K.Num) (log : List (Record K.Num)) : Type 0 where
    pub shape : Shape m
    pub good : Good K L m
    pub correct : Right K L start m cells
    pub records : Every (OfStore K L start) log
    pub balance : Balanced K L m log
    pub writes : cells ≡ written_all start.cells log

  module _ (four : length start.registers ≡ register_count) (lent : length start.cells ≡ L.results) where
    -- THE START

    sound_empty : Sound (empty_machine start.registers) start.cells []
    sound_empty = record {
      shape = empty_shape K L start.registers four;
      good = empty_good K L start.registers;
      correct = record {
        inv = record {
          registers = λ i. rw (get_or-map num start.registers i K.nought) refl;
          buffers = λ i. rw (get_d_all {A = Buffer K.Num} buffer_count i free_buffer) tt;
          stations = λ i. rw (get_d_all {A = Station K.Num} station_count i free_station) tt;
          stores = λ i. rw (get_d_all {A = StoreBuffer K.Num} store_count i free_store) tt;
        };
        pending = λ i. rw (get_d_all {A = StoreBuffer K.Num} store_count i free_store) tt;
        settled = λ c h. refl;
        width = lent;
      };
      records = tt;
      balance = λ q. rw (le-ltb q 0 (omega arith));
      writes = refl;
    }

    -- A MOVE

    abbrev RecordIf : Option (Record K.Num) → Type 0
    RecordIf none = Unit
    RecordIf (some r) = OfStore K L start r

    records-on : (log : List (Record K.Num)) (e : Option (Record K.Num)) → Every (OfStore K L start) log → RecordIf e
        → Every (OfStore K L start) (logged log e)
    records-on log none h q = h
    records-on log (some r) h q = every_snoc (OfStore K L start) log r h q

    module _ (m : Machine K.Num) (cells : List K.Num) (log : List (Record K.Num)) (Z : Sound m cells log) where
      record_of : (v : Move K L m) → RecordIf (effect K L m v)
      record_of (issuing b t u h r w) = tt
      record_of (arriving i p c h e) = tt
      record_of (completing i p o x y h e) = tt
      record_of (granting_buffer i p v h e) = tt
      record_of (granting_station i p v h e) = tt
      record_of (releasing i p c v h e) =
          let w : StoreOk (right K L start m.next) (giver_of m) (live p c (num v)) = rw e at (Z.correct.inv.stores i) in
          let o : StoreOk (orderly K L m.next) (giver_of m) (live p c (num v)) = rw e at (Z.good.inv.stores i) in
          record { in_list = omega (arith, o.0.0, Z.good.fits); its_cell = w.0; its_number = w.1 }

      sound-moved : (v : Move K L m) → Sound (moved K L m v) (written cells (effect K L m v)) (logged log (effect K L m v))
      sound-moved v = record {
        shape = shape_moved K L m Z.shape v;
        good = good_moved K L m Z.shape Z.good v;
        correct = right_moved K L start four lent m Z.shape Z.good cells Z.correct v;
        records = records-on log (effect K L m v) Z.records (record_of v);
        balance = balanced_moved K L m Z.shape log Z.balance v;
        writes = rw (written_snoc start.cells log (effect K L m v), ← Z.writes) refl;
      }

    -- A CODE, taken or refused

    abbrev pub SoundState : State K.Num → Type 0
    SoundState s = Sound s.machine s.cells s.log

    pub refused_leave_lem : (s : State K.Num) (code : ℕ) → (step K L s.machine code).refusal ≢ 0 → ask K L s code ≡ s
    refused_leave_lem s code h =
        let r = refused_changes_nothing_lem K L s.machine code h in
        λ i. record { machine = r.0 i; cells = written s.cells (r.1 i); log = logged s.log (r.1 i) }

    pub sound_ask : (s : State K.Num) → SoundState s → (code : ℕ) → SoundState (ask K L s code)
    sound_ask s Z code =
        ⊎_elim
        (λ (e : (step K L s.machine code).refusal ≡ 0).
        let d = step-view K L s.machine code e in
        let k = sound-moved s.machine s.cells s.log Z d.move in
        rw (d.machine_is, d.released_is) at k)
        (λ (e : (step K L s.machine code).refusal ≢ 0). subst SoundState (sym (refused_leave_lem s code e)) Z)
        (eqb_cases (step K L s.machine code).refusal 0)

    pub sound_asked : (s : State K.Num) → SoundState s → (codes : List ℕ) → SoundState (asked K L s codes)
    sound_asked s Z [] = Z
    sound_asked s Z (code ∷ codes) = sound_asked (ask K L s code) (sound_ask s Z code) codes

    -- THE COUNT

    module _ (z : list_refusal K L ≡ 0) where
      count-ask : (s : State K.Num) → SoundState s → (code : ℕ)
          → cond (is_taken (step K L s.machine code)) 1 0 + (steps_left K L (ask K L s code).machine).left ≡ (steps_left K L s.machine).left
      count-ask s Z code =
          let n : ℕ = (step K L s.machine code).refusal in
          ⊎_elim
          (λ (e : n ≡ 0). rw (eq-eqb n 0 e) (omega (arith, step-lowers K L z s.machine Z.shape code e)))
          (λ (e : n ≢ 0). rw (ne_eqb n 0 e) (omega (arith, ap (λ (m : Machine K.Num). (steps_left K L m).left) (refused_changes_nothing_lem K L s.machine code e).0)))
          (eqb_cases n 0)

      count-asked : (s : State K.Num) → SoundState s → (codes : List ℕ)
          → taken_of K L s codes + (steps_left K L (asked K L s codes).machine).left ≡ (steps_left K L s.machine).left
      count-asked s Z [] = omega arith
      count-asked s Z (code ∷ codes) = omega (arith, count-ask s Z code, count-asked (ask K L s code) (sound_ask s Z code) codes)

      pub sound_begin : SoundState (begin K L start)
      sound_begin = subst (λ (f : Fresh K.Num). Sound f.machine start.cells []) (sym (fresh-is K L z start.registers)) sound_empty

    -- THE END

    still-giver : (m : Machine K.Num) → Still m → (t : ℕ) → giver_of m t ≡ nobody
    unfolding giver
    still-giver m d t = go (slot_of t)
      where
        go : (s : Slot) → giver_in m.buffers m.stations s ≡ nobody
        go neither = refl
        go (buffer i) = rw (d.no_buffer i)
        go (station i) = rw (d.no_station i)

    module _ (s : State K.Num) (Z : SoundState s) (d : Still s.machine) where
      abbrev here : Run K.Num
      here = run_to K L start s.machine.next

      still-registers : s.machine.registers ≡ map num here.registers
      still-registers =
          ext_get_or (num K.nought) s.machine.registers (map num here.registers)
          (Z.shape.four_registers ∙ sym four ∙ sym (registers_kept K L start s.machine.next) ∙ sym (length-map here.registers num))
          (λ i h. one i (register_at K s.machine i) (Z.correct.inv.registers i) ∙ sym (get_or-map num here.registers i K.nought))
        where
          one : (i : ℕ) (o : Operand K.Num) → Held (right K L start s.machine.next) (giver_of s.machine) (register i) o → o ≡ num (value K here i)
          one i (num u) h = ap {B = Operand K.Num} num h
          one i (tag t) h = absurd (rw (still-giver s.machine d t) at h)

      still-cells : s.cells ≡ here.cells
      still-cells =
          ext_get_or K.nought s.cells here.cells (Z.correct.width ∙ sym lent ∙ sym (cells_kept K L start s.machine.next))
          (λ c h. Z.correct.settled c (λ i k. none-ne-some c (sym (ap store_cell (d.no_store i)) ∙ k)))

-- THEOREM
pub order_theorem_lem : OrderTheorem
order_theorem_lem K L start z four lent codes =
    let s : State K.Num = asked K L (begin K L start) codes in
    let m : Machine K.Num = s.machine in
    let Z : SoundState K L start four lent s = sound_asked K L start four lent (begin K L start) (sound_begin K L start four lent z) codes in
    let o : in_order K L m ≡ true = of_good K L m Z.shape Z.good in
    let ends : is_drained K L m ≡ true → m.next ≡ length L.words = drained_end (length L.words) m in
    let stops : is_drained K L m ≡ true → Still m = λ d. still_is m Z.shape (drained_still (length L.words) m d) in
    record {
      whole = Z.shape;
      in_good_order = o;
      records_right = Z.records;
      cells_are_log = Z.writes;
      at_most_once = at_most_once_lem K L m Z.shape s.log Z.balance;
      goes_on = progress_theorem K L z m Z.shape o;
      refused_leave = refused_leave_lem K L start four lent s;
      lowers = step-lowers K L z m Z.shape;
      counted = count-asked K L start four lent z (begin K L start) (sound_begin K L start four lent z) codes ∙ fresh-count K L z start.registers four;
      none_left = drained-left K L z m Z.shape o;
      registers_right = λ d. still-registers K L start four lent s Z (stops d) ∙ ap (λ (n : ℕ). map {B = Operand K.Num} num (run_to K L start n).registers) (ends d)
          ∙ ap (λ (r : OneAtATime K.Num). map {B = Operand K.Num} num r.run.registers) (sym (one_at_a_time_is K L z start));
      cells_right = λ d. still-cells K L start four lent s Z (stops d) ∙ ap (λ (n : ℕ). (run_to K L start n).cells) (ends d)
          ∙ ap (λ (r : OneAtATime K.Num). r.run.cells) (sym (one_at_a_time_is K L z start));
      each_once = λ d. each_once_lem K L m Z.shape s.log Z.balance (ends d) (stops d);
    }
