-- Two corollaries: the lowest step, taken again and again, drains in exactly the count of the list; and the order theorem at P2's list.
use mathlib.Core.Path.{◌≡◌, refl}
use mathlib.Core.Bool.{true, false}
use mathlib.Core.Option.{Option, none, some}
use mathlib.Core.Logic.{⊎_elim}
use Prim.Native.Nat.{ℕ, zero, suc, ◌+◌, ◌≤◌}
use native.Mathlib.Omega.{arith}
use lib.ListN.{length}
use Rattle.words.specs.Instructions.{is_register, is_cell}
use Rattle.words.specs.Check.{operation_refusal, register_refusal, cell_refusal, word_refusal, list_check}
use Rattle.theory_machine.specs.Tags.{register_count, slot_of}
use Rattle.theory_machine.specs.Instruction.{decode}
use Rattle.theory_machine.specs.Machine.{Kind, Lent, Machine}
use Rattle.theory_machine.specs.GoodOrder.{giver, good_order, nothing_live, drained}
use Rattle.theory_machine.specs.Codes.{step_of}
use Rattle.theory_machine.specs.Steps.{perform, in_order, step}
use Rattle.theory_machine.specs.Count.{words_left}
use Rattle.theory_machine.specs.OneAtATime.{Run}
use Rattle.theory_machine.specs.Entries.{list_refusal, fresh, steps_left, lowest_step}
use Rattle.theory_machine.specs.Asked.{State, begin, ask_lowest, lowest_again}
use Rattle.theory_machine.specs.Statement.{is_drained, IsLowest, LowestDrains, LowestDrainsTheorem}
use Rattle.theory_machine.specs.Example.{example_list, example_start, ExampleTheorem}
use Rattle.theory_machine.proofs.Rows.{bool_cases}
use Rattle.theory_machine.proofs.GoodOrder.{of_good}
use Rattle.theory_machine.proofs.Entries.{step-lowers, fresh-count, drained-left, left-drained, lowest_theorem}
use Rattle.theory_machine.proofs.OrderTheorem.{SoundState, sound_ask, sound_begin, order_theorem_lem}

-- THE LOWEST STEP AGAIN AND AGAIN

module _ (K : Kind) (L : Lent K.Num) (start : Run K.Num) (z : list_refusal K L ≡ 0) (four : length start.registers ≡ register_count)
    (lent : length start.cells ≡ L.results) where
  abbrev Safe : State K.Num → Type 0
  Safe s = SoundState K L start four lent s

  ordered : (s : State K.Num) → Safe s → in_order K L s.machine ≡ true
  ordered s Z = of_good K L s.machine Z.shape Z.good

  record Lowered (s s' : State K.Num) : Type 0 where
    sound : Safe s'
    lower : (steps_left K L s'.machine).left + 1 ≡ (steps_left K L s.machine).left

  -- where anything is left the lowest step is there, and is taken
  lowest-lowers : (s : State K.Num) → Safe s → 1 ≤ (steps_left K L s.machine).left → Lowered s (ask_lowest K L s (lowest_step K L s.machine).code)
  lowest-lowers s Z h = go (lowest_step K L s.machine).code refl
    where
      low : IsLowest K L s.machine
      low = lowest_theorem K L z s.machine Z.shape (ordered s Z)

      go : (r : Option ℕ) → (lowest_step K L s.machine).code ≡ r → Lowered s (ask_lowest K L s r)
      go none e = absurd (omega (arith, drained-left K L z s.machine Z.shape (ordered s Z) (low.drained_if_none e)))
      go (some code) e = record {
        sound = sound_ask K L start four lent s Z code;
        lower = step-lowers K L z s.machine Z.shape code (low.permitted code e);
      }

  record After (s : State K.Num) (n : ℕ) : Type 0 where
    sound : Safe (lowest_again K L s n)
    lower : (steps_left K L (lowest_again K L s n).machine).left + n ≡ (steps_left K L s.machine).left

  again : (s : State K.Num) → Safe s → (n : ℕ) → n ≤ (steps_left K L s.machine).left → After s n
  again s Z zero h = record { sound = Z; lower = omega arith }
  again s Z (suc n) h =
      let one = lowest-lowers s Z (omega arith) in
      let r = again (ask_lowest K L s (lowest_step K L s.machine).code) one.sound n (omega (arith, one.lower)) in
      record { sound = r.sound; lower = omega (arith, one.lower, r.lower) }

  total : (steps_left K L (begin K L start).machine).left ≡ words_left L.words
  total = fresh-count K L z start.registers four

  drains : LowestDrains K L start
  drains =
      let w : ℕ = words_left L.words in
      let r : (n : ℕ) → n ≤ w → After (begin K L start) n =
      λ n h. again (begin K L start) (sound_begin K L start four lent z) n (omega (arith, total)) in
      let m : ℕ → Machine K.Num = λ n. (lowest_again K L (begin K L start) n).machine in
      record {
        not_sooner = λ n h. ⊎_elim
            (λ (d : is_drained K L (m n) ≡ true).
            let a = r n (omega arith) in
            absurd (omega (arith, total, a.lower, drained-left K L z (m n) a.sound.shape (ordered (lowest_again K L (begin K L start) n) a.sound) d)))
            (λ (d : is_drained K L (m n) ≡ false). d) (bool_cases (is_drained K L (m n)));
        then =
            let a = r w (omega arith) in
            left-drained K L z (m w) a.sound.shape (ordered (lowest_again K L (begin K L start) w) a.sound) (omega (arith, total, a.lower));
      }

pub lowest-drains : LowestDrainsTheorem
lowest-drains K L start z four lent = drains K L start z four lent

-- P2'S LIST, of any kind of number: the theorem's hypotheses are met, by computing

passes_check : (K : Kind) (a b : K.Num) → list_refusal K (example_list K a b) ≡ 0
unfolding list_check word_refusal operation_refusal register_refusal cell_refusal is_register is_cell
passes_check K a b = refl

pub example_theorem_lem : (K : Kind) (a b : K.Num) → ExampleTheorem K a b
unfolding step good_order nothing_live drained fresh list_check word_refusal operation_refusal register_refusal is_register cell_refusal is_cell perform step_of decode giver slot_of
example_theorem_lem K a b = record {
  outcome = order_theorem_lem K (example_list K a b) (example_start K) (passes_check K a b) refl refl;
  drains = refl;
  steps = refl;
  log = refl;
}
