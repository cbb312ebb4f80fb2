-- What the entries by value answer, in words.
use mathlib.Core.Path.{◌≡◌, refl, sym, ap, ◌∙◌}
use mathlib.Core.Bool.{cond, not}
use mathlib.Core.List.{List, [], ◌∷◌, ◌++◌}
use Prim.Native.Nat.{ℕ, ◌≤◌}
use lib.Dec.{eqb}
use lib.Ieee.{Float}
use native.Mathlib.Nat.{zero-add}
use native.Mathlib.Omega.{arith}
use lib.ListN.{length, drop}
use lib.Seq.{sets, sets-eq}
use borrow.Author.Tests.{eq-eqb, ne_eqb}
use Rattle.std.specs.Prelude as given
use Rattle.std.specs.Prelude.{None, Result, Ok, Err}
use Rattle.std.specs.Result.{result_unwrap_or}
use Rattle.words.specs.declared.refusal.Refusal.{Refusal}
use Rattle.words.specs.Refusals.{answer_number}
use Rattle.steps_left.specs.Answers.{view_left}
use Rattle.machine_steps.specs.Lowest.{view_lowest, view_lowest_step}
use Rattle.theory_machine.specs.Machine as theory
use Rattle.theory_machine.specs.Binary64.{binary64}
use Rattle.theory_machine.specs.Issue.{Answer, is_taken}
use Rattle.theory_machine.specs.Steps.{step}
use Rattle.theory_machine.specs.Asked.{written}
use Rattle.theory_run.specs.Run.{ScheduleRun}
use Rattle.machine_parts.specs.declared.Machine.{Machine}
use Rattle.machine_parts.specs.declared.Stepped.{Stepped}
use Rattle.machine_parts.specs.View.{view, lent, view_stepped, released_by}
use Rattle.machine_steps.specs.Step.{StepAnswer}
use Rattle.machine_steps.specs.Advance.{Progress}
use Rattle.machine_words.specs.Image.{machine_in, image_over}
use Rattle.wethertide.specs.Entries.{released_words, StepWords, step_in, RunWords, RunLogged}

-- a row that was altered by an answer, as the answer on paper alters it
pub carried : {A B : Type 0} (altered : A → B → B) {row row' : B} {x y : A} → row' ≡ altered x row → x ≡ y → row' ≡ altered y row
carried altered {row = row} e same = e ∙ (λ i. altered (same i) row)

module _ {words : List ℕ} {operands : List Float} {image : List ℕ} {m : Machine} (held : view m ≡ machine_in image) where
  module _ {cells cells' : List Float} {code : ℕ} {s : Stepped} (a : StepAnswer words operands m cells code s cells') where
    -- rows that are altered where the step was taken, and else as found
    step_words : {released image' released' : List ℕ} → image' ≡ cond (eqb (answer_number s.outcome) 0) (image_over (view s.machine) image) image
        → released' ≡ cond (eqb (answer_number s.outcome) 0) (sets released 0 (released_words (released_by s.outcome))) released
        → StepWords (step_in words operands image cells code) image cells released (answer_number s.outcome) image' cells' released'
    step_words {released = released} i r =
        let answer : view_stepped s ≡ step_in words operands image cells code =
        a.answer ∙ ap (λ (v : theory.Machine Float). step binary64 (lent words operands cells) v code) held in
        record {
          answered = ap (λ (x : Answer Float). x.refusal) answer;
          machine = i ∙ ap (λ (x : Answer Float). cond (is_taken x) (image_over x.machine image) image) answer;
          after = a.after ∙ ap (λ (x : Answer Float). written cells x.released) answer;
          told = r ∙ ap (λ (x : Answer Float). cond (is_taken x) (sets released 0 (released_words x.released)) released) answer;
        }

    pub step-refused : {released : List ℕ} → (answer_number s.outcome ≡ 0 → ⊥) → StepWords (step_in words operands image cells code) image cells released (answer_number s.outcome) image cells' released
    step-refused {released} n =
        let no = sym (ne_eqb (answer_number s.outcome) 0 n) in
        step_words (λ i. cond (no i) (image_over (view s.machine) image) image) (λ i. cond (no i) (sets released 0 (released_words (released_by s.outcome))) released)

    pub step-taken : {released told image' released' : List ℕ} → answer_number s.outcome ≡ 0 → image' ≡ image_over (view s.machine) image
        → told ≡ released_words (released_by s.outcome) → released' ≡ sets released 0 told
        → StepWords (step_in words operands image cells code) image cells released 0 image' cells' released'
    step-taken {released = released} z i t r =
        let yes = sym (eq-eqb (answer_number s.outcome) 0 z) in
        rw z at (step_words (i ∙ (λ j. cond (yes j) (image_over (view s.machine) image) image))
        (r ∙ ap (sets released 0) t ∙ (λ j. cond (yes j) (sets released 0 (released_words (released_by s.outcome))) released)))

-- what the loop comes to, in words
pub run-words : {w : ScheduleRun Float} {image log answer image' log' answer' : List ℕ} {r : Progress} {cells' : List Float} → RunLogged w log r cells' log'
    → image' ≡ cond (not (eqb r.steps 0)) (image_over (view r.machine) image) image → answer' ≡ sets answer 0 (r.steps ∷ r.place ∷ r.records ∷ [])
    → RunWords w image log answer r.refusal image' cells' log' answer'
run-words {image = image} {answer = answer} l i t = record {
  answered = l.refusal;
  machine = i ∙ (λ j. cond (not (eqb (l.steps j) 0)) (image_over (l.machine j) image) image);
  after = l.after;
  logged = l.logged;
  told = t ∙ (λ j. sets answer 0 (l.steps j ∷ l.place j ∷ l.records j ∷ []));
}

-- a count, and the lowest step, as a number and a value: 0 and none where refused
pub left_told : (left : Result ℕ Refusal) → (answer_number left ≡ (view_left left).refusal) × (result_unwrap_or left 0 ≡ (view_left left).left)
left_told (Ok n) = (refl, refl)
left_told (Err r) = (refl, refl)

pub lowest_told : (lowest : Result (given.Option ℕ) Refusal)
    → (answer_number lowest ≡ (view_lowest_step lowest).refusal) × (view_lowest (result_unwrap_or lowest None) ≡ (view_lowest_step lowest).code)
lowest_told (Ok o) = (refl, refl)
lowest_told (Err r) = (refl, refl)

-- a row copied over the front of another
pub front_set : (n : ℕ) (row new : List Float) → n ≤ length row → length new ≡ n → {front : List Float} → front ≡ new → front ++ drop n row ≡ sets row 0 new
front_set n row new h l e =
    ap (λ f. f ++ drop n row) e
    ∙ ap (λ k. new ++ drop k row) (sym l ∙ sym (zero-add (length new)))
    ∙ sym (sets-eq new row 0 (omega arith))
