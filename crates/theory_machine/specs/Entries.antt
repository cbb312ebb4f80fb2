-- The entries that check for themselves (document 01, "Refusal numbers"): fresh machine, one-at-a-time run, steps left, lowest step.
use Rattle.std.specs.Prelude.{cond, not, List, [], ◌∷◌, map, ℕ, eqb, length, replicate}
use Rattle.std.proofs.Math.Option.{Option, none}
use Rattle.words.specs.declared.Areas.{Areas}
use Rattle.words.specs.Check.{first_of, list_check}
use Rattle.theory_machine.specs.Rows.{first}
use Rattle.theory_machine.specs.Tags.{register_count, buffer_count, station_count, store_count}
use Rattle.theory_machine.specs.Codes.{code_limit}
use Rattle.theory_machine.specs.Machine.{Kind, Lent, areas_of, num, free_buffer, free_station, free_store, Machine, standing}
use Rattle.theory_machine.specs.Issue.{is_taken}
use Rattle.theory_machine.specs.GoodOrder.{good_order}
use Rattle.theory_machine.specs.Steps.{perform}
use Rattle.theory_machine.specs.Count.{count_left}
use Rattle.theory_machine.specs.OneAtATime.{Run, run_to}

pub record Fresh (A : Type 0) : Type 0 where
  pub refusal : ℕ
  pub machine : Machine A

pub record OneAtATime (A : Type 0) : Type 0 where
  pub refusal : ℕ
  pub run : Run A

pub record StepsLeft : Type 0 where
  pub refusal : ℕ
  pub left : ℕ

pub record LowestStep : Type 0 where
  pub refusal : ℕ
  pub code : Option ℕ

-- at place 0 with nothing live
abbrev pub empty_machine : {A : Type 0} → List A → Machine A
empty_machine numbers =
    standing 0 (map num numbers) (replicate buffer_count free_buffer) (replicate station_count free_station) (replicate store_count free_store)

-- "check the list and then 6": what steps left, the lowest step and a run are refused with
unfoldable pub entry_refusal : (K : Kind) (words : List ℕ) → Areas → Machine K.Num → ℕ
entry_refusal K words areas m = first_of ((list_check areas words).refusal ∷ cond (good_order K words areas m) 0 6 ∷ [])

module _ (K : Kind) (L : Lent K.Num) where
  -- the list against its areas
  abbrev pub list_refusal : ℕ
  list_refusal = (list_check (areas_of L) L.words).refusal

  abbrev pub refusal_of_entry : Machine K.Num → ℕ
  refusal_of_entry m = entry_refusal K L.words (areas_of L) m

  -- the smallest code that a machine in good order permits
  unfoldable pub lowest_permitted : Machine K.Num → Option ℕ
  lowest_permitted m = first (λ code. is_taken (perform K L m code)) 0 code_limit

  -- "A fresh machine .. need[s] a list that passes against its areas; .. takes four start numbers. Refused, .. a machine at place 0 with
  -- nothing live and all registers +0"
  unfoldable pub fresh : (starts : List K.Num) → Fresh K.Num
  fresh starts =
      cond (not (eqb list_refusal 0)) (record { refusal = list_refusal; machine = empty_machine (replicate register_count K.nought) })
      (record { refusal = 0; machine = empty_machine starts })

  -- "the one-at-a-time run need[s] a list that passes against its areas; .. Refused, .. gives the start numbers back"
  unfoldable pub one_at_a_time : (start : Run K.Num) → OneAtATime K.Num
  one_at_a_time start =
      cond (not (eqb list_refusal 0)) (record { refusal = list_refusal; run = start })
      (record { refusal = 0; run = run_to K L start (length L.words) })

  -- "Steps left gives 0 when refused"; "Steps left, and the lowest permitted step, check the list and then 6."
  unfoldable pub steps_left : Machine K.Num → StepsLeft
  steps_left m = record { refusal = refusal_of_entry m; left = cond (eqb (refusal_of_entry m) 0) (count_left L.words m) 0 }

  -- "the lowest step none": "answers the smallest permitted code, or none exactly when drained"
  unfoldable pub lowest_step : Machine K.Num → LowestStep
  lowest_step m = record { refusal = refusal_of_entry m; code = cond (eqb (refusal_of_entry m) 0) (lowest_permitted m) none }
