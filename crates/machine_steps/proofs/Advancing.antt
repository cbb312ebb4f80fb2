-- Where a run begins and where it stops next, by the tests of the code.
use mathlib.Core.Path.{◌≡◌, refl, sym, ap, ◌∙◌}
use mathlib.Core.Bool.{Bool, true, false, cond, not}
use mathlib.Core.Option.{Option, none, some}
use mathlib.Core.List.{List}
use Prim.Native.Nat.{ℕ, zero, suc, ◌+◌, ◌-◌, ◌≤◌, ◌<◌}
use native.Mathlib.Omega.{arith}
use lib.Dec.{eqb, ltb, leb}
use lib.Ieee.{Float}
use lib.ListN.{length}
use borrow.Author.Tests.{lt-ltb, le-ltb, ltb-true}
use Rattle.seven_bit.specs.SevenBits.{Parsed, accepted, refused, number_at}
use Rattle.theory_machine.specs.Machine as theory
use Rattle.theory_machine.specs.Machine.{Lent}
use Rattle.theory_machine.specs.Issue.{Answer, is_taken}
use Rattle.theory_machine.specs.Steps.{perform}
use Rattle.theory_machine.proofs.Rows.{cond_cases}
use Rattle.theory_machine.specs.Binary64.{binary64}
use Rattle.theory_machine.specs.Asked.{written}
use Rattle.machine_parts.specs.declared.Machine.{Machine}
use Rattle.machine_parts.specs.declared.Record.{Record}
use Rattle.machine_parts.specs.View.{view, lent_with}
use Rattle.std.specs.Prelude as given
use Rattle.std.specs.Prelude.{Some, None, Result, Ok, Err}
use Rattle.std.specs.Result.{IsOkAnd}
use Rattle.words.specs.declared.refusal.Refusal.{Refusal}
use Rattle.machine_parts.specs.View.{released_by}
use Rattle.machine_parts.proofs.Exact.{back}
use Rattle.machine_steps.specs.declared.advance.Progress as code
use Rattle.machine_steps.specs.declared.advance.Entry.{Entry}
use Rattle.machine_take.specs.declared.taking.Taken as declared
use Rattle.machine_take.specs.Taking as taking
use Rattle.machine_take.specs.Taking.{Taken, view_taken, stopped, by_number, by_release, after_step, take_from}
use Rattle.machine_take.proofs.Counted.{counted, counted_on, few-steps}
use Rattle.machine_steps.specs.Advance.{Progress, Stop, view_progress, view_stop, run_refusal, beginning, stays, stop_of, taken_on, goes, advanced, cells_after}

pub begins_so : (m : Machine) (words : List ℕ) (operands : List Float) (results : ℕ) {n : ℕ} → n ≡ run_refusal m words operands results
    → record { machine = m; steps = 0; place = 0; refusal = n; records = 0; going = eqb n 0 } ≡ beginning m words operands results
unfolding beginning
begins_so m words operands results q = λ i. record { machine = m; steps = 0; place = 0; refusal = q i; records = 0; going = eqb (q i) 0 }

-- an outcome whose record is let go of
pub mapped : (P : Unit → Type 0) (r : Result Unit Refusal) → IsOkAnd r P → r ≡ Ok tt
mapped P (Ok u) h = refl
mapped P (Err e) h = absurd h

-- without room nothing is released
module _ (L : Lent Float) (schedule : List ℕ) where
  module _ (m : theory.Machine Float) (steps place : ℕ) (onward : (next : ℕ) → theory.Machine Float → Taken)
      (later : (next : ℕ) (n : theory.Machine Float) → (onward next n).released ≡ none) where
    by-release : (r : Option (theory.Record Float)) (next : ℕ) (n : theory.Machine Float)
        → (by_release r (onward next n) (λ r. cond false (record { machine = n; steps = suc steps; place = next; refusal = 0; released = some r }) (taking.ended_at m steps place 11))).released ≡ none
    by-release none next n = later next n
    by-release (some r) next n = refl

    by_answer : (next : ℕ) (a : Answer Float) → (after_step L false schedule m steps place next a (onward next)).released ≡ none
    by_answer next a = cond_cases (λ (t : Taken). t.released ≡ none) (not (is_taken a)) (λ _. refl) (λ _. by-release a.released next a.machine)

    by_number_lem : (n : Parsed ℕ)
        → (by_number n (λ number. taking.ended_at m steps place number) (λ code next. after_step L false schedule m steps place next (perform binary64 L m code) (onward next))).released ≡ none
    by_number_lem (refused number at) = refl
    by_number_lem (accepted code next) = by_answer next (perform binary64 L m code)

  no_room : (k : ℕ) (m : theory.Machine Float) (steps place : ℕ) → (take_from L false schedule k m steps place).released ≡ none
  unfolding take_from
  no_room zero m steps place = refl
  no_room (suc k) m steps place =
      cond_cases (λ (t : Taken). t.released ≡ none) (leb (length schedule) place) (λ _. refl)
      (λ _. by_number_lem m steps place (λ next n. take_from L false schedule k n (suc steps) next) (λ next n. no_room k n (suc steps) next) (number_at schedule place))

  pub released-room : (room : Bool) (k : ℕ) (m : theory.Machine Float) (steps place : ℕ) {r : theory.Record Float}
      → (take_from L room schedule k m steps place).released ≡ some r → room ≡ true
  released-room true k m steps place e = refl
  released-room false k m steps place e = absurd (let z : ◌≡◌ {A = ℕ} 0 1 = none-some (sym (no_room k m steps place) ∙ e) in omega arith)
    where
      none-some : {r : theory.Record Float} → none ≡ some r → ◌≡◌ {A = ℕ} 0 1
      none-some q = ap (λ (o : Option (theory.Record Float)). by_release o 0 (λ _. 1)) q

module _ (p : Progress) (words : List ℕ) (operands cells : List Float) (schedule : List ℕ) (room : ℕ) where
  abbrev pub Stops : Stop → List Float → Type 0
  Stops r cells' = (r ≡ advanced p words operands cells schedule room) × (cells' ≡ cells_after p words operands cells schedule room)

  over : goes p words operands cells schedule room ≡ false → {r : Stop} → r ≡ stays p → Stops r cells
  unfolding advanced cells_after
  over g e = (rw g e, rw g)

  pub not_begun_lem : p.going ≡ false → {r : Stop} → r ≡ stays p → Stops r cells
  not_begun_lem g e = over (rw g) e

  pub never : p.going ≡ true → p.place < p.steps → {r : Stop} → r ≡ stays p → Stops r cells
  never g h e = over (rw (g, lt-ltb p.place p.steps h)) e

  module _ (g : p.going ≡ true) (h : p.steps ≤ p.place) (t : Taken)
      (q : t ≡ take_from (lent_with words operands (length cells)) (ltb p.records room) schedule (length schedule) (view p.machine) 0 p.place) {cells' : List Float}
      (w : cells' ≡ written cells t.released) where
    -- with the steps before
    e : counted p.steps t ≡ taken_on p words operands cells schedule room
    e = ap (counted p.steps) q ∙ sym (counted_on (lent_with words operands (length cells)) (ltb p.records room) schedule p.steps (length schedule) (view p.machine) p.steps 0 p.place (omega arith))

    pub few : t.steps ≤ length schedule - p.place
    few =
        let z : t.steps ≡ (take_from (lent_with words operands (length cells)) (ltb p.records room) schedule (length schedule) (view p.machine) 0 p.place).steps = ap (λ (t : Taken). t.steps) q in
        let f = few-steps (lent_with words operands (length cells)) (ltb p.records room) schedule (length schedule) (view p.machine) 0 p.place in
        rw z (omega (arith, f))

    going_on : goes p words operands cells schedule room ≡ true
    going_on = rw (g, le-ltb p.place p.steps h)

    pub has_room : {r : theory.Record Float} → t.released ≡ some r → p.records < room
    has_room z =
        ltb-true p.records room
        (released-room (lent_with words operands (length cells)) schedule (ltb p.records room) (length schedule) (view p.machine) p.steps p.place
        (sym (ap (λ (t : Taken). t.released) e) ∙ z))

    cells-so : cells' ≡ cells_after p words operands cells schedule room
    unfolding cells_after
    cells-so = w ∙ ap (λ (t : Taken). written cells t.released) e ∙ rw going_on

    pub stopped_so : Stops (stop_of p (counted p.steps t) t.released) cells'
    unfolding advanced
    stopped_so = (ap (λ (t : Taken). stop_of p t t.released) e ∙ rw going_on, cells-so)

-- THE CODE'S PROGRESS after codes were taken, by what they came to
module _ (p : code.Progress) (words : List ℕ) (operands cells : List Float) (schedule : List ℕ) (room : ℕ) (g : p.going ≡ true) (h : p.steps ≤ p.place) (t : declared.Taken)
    (q : view_taken t ≡ take_from (lent_with words operands (length cells)) (ltb p.records room) schedule (length schedule) (view p.machine) 0 p.place) {cells' : List Float}
    (w : cells' ≡ written cells (released_by t.outcome)) where
  abbrev onward : Result Unit Refusal → (records : ℕ) → (going : Bool) → Machine → code.Progress
  onward o records going m = record { machine = m; steps = p.steps + t.steps; place = t.place; outcome = o; records = records; going = going }

  abbrev StopsAt : code.Progress → given.Option Entry → Type 0
  StopsAt p' e = Stops (view_progress p) words operands cells schedule room (view_stop p' e) cells'

  -- what the stop shows, of the machine that the view gives back
  shown : (o : Result (given.Option Record) Refusal) → t.outcome ≡ o
      → Stops (view_progress p) words operands cells schedule room (stop_of (view_progress p) (counted p.steps (stopped t o)) (released_by o)) cells'
  shown o z = rw z at (stopped_so (view_progress p) words operands cells schedule room g h (view_taken t) q w)

  pub at_refusal : (r : Refusal) → t.outcome ≡ Err r → StopsAt (onward (Err r) p.records false t.machine) None
  at_refusal r z =
      let s = shown (Err r) z in
      (ap (λ (m : Machine). view_stop (onward (Err r) p.records false m) None) (sym (back t.machine)) ∙ s.0, s.1)

  pub at_end : t.outcome ≡ Ok None → StopsAt (onward (Ok tt) p.records false t.machine) None
  at_end z =
      let s = shown (Ok None) z in
      (ap (λ (m : Machine). view_stop (onward (Ok tt) p.records false m) None) (sym (back t.machine)) ∙ s.0, s.1)

  pub at_release : (made : Record) → t.outcome ≡ Ok (Some made)
      → StopsAt (onward (Ok tt) (p.records + 1) true t.machine) (Some (record { index = p.records; made = made }))
  at_release made z =
      let s = shown (Ok (Some made)) z in
      (ap (λ (m : Machine). view_stop (onward (Ok tt) (p.records + 1) true m) (Some (record { index = p.records; made = made }))) (sym (back t.machine)) ∙ s.0, s.1)
