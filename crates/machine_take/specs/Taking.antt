-- What only the code's contracts cite: codes of a schedule taken, without the test of good order, up to and including the next release.
use Rattle.std.specs.Prelude as std
use Rattle.std.specs.Prelude.{Bool, cond, not, List, ℕ, zero, suc, leb, Result, Float, length}
use Rattle.std.proofs.Math.Option.{Option, none, some}
use Rattle.seven_bit.specs.SevenBits.{Parsed, accepted, refused, number_at}
use Rattle.theory_machine.specs.Machine.{Lent, Machine, Record}
use Rattle.theory_machine.specs.Binary64.{binary64}
use Rattle.theory_machine.specs.Issue.{Answer, is_taken}
use Rattle.theory_machine.specs.Steps.{perform}
use Rattle.words.specs.declared.refusal.Refusal.{Refusal}
use Rattle.words.specs.Refusals.{answer_number}
use Rattle.machine_parts.specs.View.{view, released_by}
use Rattle.machine_parts.specs.declared.Record as parts
use Rattle.machine_take.specs.declared.taking.Taken as code

-- where they stop
pub record Taken : Type 0 where
  pub machine : Machine Float
  pub steps : ℕ
  pub place : ℕ
  pub refusal : ℕ
  pub released : Option (Record Float)

-- where the codes taken so far stop, with this outcome
abbrev pub stopped : code.Taken → Result (std.Option parts.Record) Refusal → Taken
stopped t o = record { machine = view t.machine; steps = t.steps; place = t.place; refusal = answer_number o; released = released_by o }

abbrev pub view_taken : code.Taken → Taken
view_taken t = stopped t t.outcome

abbrev pub ended_at : Machine Float → (steps place refusal : ℕ) → Taken
ended_at m steps place number = record { machine = m; steps = steps; place = place; refusal = number; released = none }

-- a number of the schedule, read: its refusal, or a code and the place after it
abbrev pub by_number : {B : Type 0} → Parsed ℕ → ((refusal : ℕ) → B) → ((code next : ℕ) → B) → B
by_number (refused number place) bad good = bad number
by_number (accepted code next) bad good = good code next

-- what a step released
abbrev pub by_release : {B : Type 0} → Option (Record Float) → B → ((r : Record Float) → B) → B
by_release none nothing one = nothing
by_release (some r) nothing one = one r

module _ (L : Lent Float) (room : Bool) (schedule : List ℕ) where
  -- an answer of a step: a refusal stops; so does a release, with 11 where there is no room for its record
  abbrev pub after_step : Machine Float → (steps place next : ℕ) → Answer Float → (onward : Machine Float → Taken) → Taken
  after_step m steps place next a onward =
      cond (not (is_taken a)) (ended_at m steps place a.refusal)
      (by_release a.released (onward a.machine)
      (λ r. cond room (record { machine = a.machine; steps = suc steps; place = next; refusal = 0; released = some r }) (ended_at m steps place 11)))

  unfoldable pub take_from : (turns : ℕ) → Machine Float → (steps place : ℕ) → Taken
  take_from zero m steps place = ended_at m steps place 0
  take_from (suc k) m steps place =
      cond (leb (length schedule) place) (ended_at m steps place 0)
      (by_number (number_at schedule place) (λ number. ended_at m steps place number)
      (λ code next. after_step m steps place next (perform binary64 L m code) (λ n. take_from k n (suc steps) next)))
