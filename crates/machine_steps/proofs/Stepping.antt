-- One step, by what its two tests say.
use mathlib.Core.Path.{◌≡◌, refl, sym, ap, ◌∙◌}
use mathlib.Core.Bool.{true, false}
use mathlib.Core.List.{List, [], ◌∷◌}
use mathlib.Core.Option.{Option, none, some}
use native.Mathlib.Omega.{arith}
use Prim.Native.Nat.{ℕ, ◌≤◌, ◌<◌}
use lib.Ieee.{Float}
use lib.ListN.{length}
use borrow.Author.Tests.{lt-ltb, le-ltb, lt-leb, ne_eqb}
use Rattle.words.specs.Instructions.{list_limit}
use Rattle.seven_bit.specs.SevenBits.{accepted, number_in, number_at}
use Rattle.theory_machine.specs.Machine as theory
use Rattle.theory_machine.specs.Machine.{Lent, Record}
use Rattle.theory_machine.proofs.Codes.{unknown_beyond}
use Rattle.theory_machine.proofs.Moves.{Reply, leaves, does, of_perform}
use Rattle.machine_take.specs.Taking.{Taken, view_taken, after_step, take_from}
use Rattle.machine_take.specs.declared.taking.Taken as declared
use Rattle.theory_machine.specs.Issue.{Answer}
use Rattle.theory_machine.specs.Binary64.{binary64}
use Rattle.theory_machine.specs.Codes.{unknown_code, step_of}
use Rattle.theory_machine.specs.Steps.{perform, in_order, step}
use Rattle.theory_machine.specs.Asked.{written}
use Rattle.machine_parts.specs.declared.Machine.{Machine}
use Rattle.std.specs.Prelude.{Err}
use Rattle.words.specs.declared.refusal.Refusal.{Refusal}
use Rattle.words.specs.declared.refusal.Refusal.TheVariants as refusal
use Rattle.machine_parts.specs.declared.Stepped.{Stepped}
use Rattle.machine_parts.specs.View.{view, released_by, view_stepped, lent}
use Rattle.machine_steps.specs.Step.{StepAnswer}

-- every known code is one byte
no_code : (code : ℕ) → 127 < code → step_of code ≡ unknown_code
no_code code h = unknown_beyond code (omega arith)

-- THE ONE BYTE OF A STEP, as a schedule
module _ (L : Lent Float) (m : theory.Machine Float) (code : ℕ) where
  one_number : code < 128 → number_at (code ∷ []) 0 ≡ accepted code 1
  unfolding number_at number_in
  one_number h = rw (lt-leb 128 code h, le-ltb 65535 code (omega arith))

  -- what taking it comes to is the step's answer
  pub record OneStep (t : Taken) (a : Answer Float) : Type 0 where
    pub machine : t.machine ≡ a.machine
    pub refusal : t.refusal ≡ a.refusal
    pub released : t.released ≡ a.released

  by_answer : (a : Answer Float) → Reply binary64 L m a → OneStep (after_step L true (code ∷ []) m 0 0 1 a (λ n. take_from L true (code ∷ []) 0 n 1 1)) a
  unfolding take_from
  by_answer a (leaves h p q) = rw (ne_eqb a.refusal 0 h) (record { machine = sym p; refusal = refl; released = sym q })
  by_answer a (does v e p q) = go a.released refl
    where
      go : (r : Option (Record Float)) → a.released ≡ r
          → OneStep (after_step L true (code ∷ []) m 0 0 1 a (λ n. take_from L true (code ∷ []) 0 n 1 1)) a
      go none z = rw (e, z) (record { machine = refl; refusal = refl; released = refl })
      go (some r) z = rw (e, z) (record { machine = refl; refusal = refl; released = refl })

  pub one_step : code < 128 → OneStep (take_from L true (code ∷ []) 1 m 0 0) (perform binary64 L m code)
  unfolding take_from
  one_step h = rw (one_number h) (by_answer (perform binary64 L m code) (of_perform binary64 L m code))

  pub stepped_is : (t : declared.Taken) → view_taken t ≡ take_from L true (code ∷ []) 1 m 0 0 → code < 128
      → view_stepped (record { machine = t.machine; outcome = t.outcome }) ≡ perform binary64 L m code
  stepped_is t e h =
      let o = one_step h in
      let machines = ap (λ (t : Taken). t.machine) e ∙ o.machine in
      let refusals = ap (λ (t : Taken). t.refusal) e ∙ o.refusal in
      let releases = ap (λ (t : Taken). t.released) e ∙ o.released in
      λ i. record { refusal = refusals i; machine = machines i; released = releases i }

module _ (words : List ℕ) (operands : List Float) (m : Machine) (cells : List Float) (code : ℕ) where
  abbrev unchanged : Refusal → Stepped
  unchanged r = record { machine = m; outcome = Err r }

  -- a refused step leaves machine and cells as found
  refused-answer : (n : Refusal) {r : Stepped} → r ≡ unchanged n → view_stepped (unchanged n) ≡ step binary64 (lent words operands cells) (view m) code
      → StepAnswer words operands m cells code r cells
  refused-answer n e s = record { answer = ap view_stepped e ∙ s; after = rw e }

  pub too_long_lem : list_limit < length words → {r : Stepped} → r ≡ unchanged refusal.List → StepAnswer words operands m cells code r cells
  unfolding step
  too_long_lem h e = refused-answer refusal.List e (rw (lt-ltb list_limit (length words) h))

  module _ (short : length words ≤ list_limit) where
    pub disordered : in_order binary64 (lent words operands cells) (view m) ≡ false → {r : Stepped} → r ≡ unchanged refusal.Order
        → StepAnswer words operands m cells code r cells
    unfolding step
    disordered o e = refused-answer refusal.Order e (rw (le-ltb list_limit (length words) short, o))

    pub performed : in_order binary64 (lent words operands cells) (view m) ≡ true → {r : Stepped} {cells' : List Float}
        → view_stepped r ≡ perform binary64 (lent words operands cells) (view m) code → cells' ≡ written cells (released_by r.outcome)
        → StepAnswer words operands m cells code r cells'
    unfolding step
    performed o e w = record { answer = e ∙ rw (le-ltb list_limit (length words) short, o); after = w }

    -- a code beyond one byte
    pub unknown : in_order binary64 (lent words operands cells) (view m) ≡ true → 127 < code → {r : Stepped} → r ≡ unchanged refusal.Code
        → StepAnswer words operands m cells code r cells
    unfolding step perform
    unknown o h e = refused-answer refusal.Code e (rw (le-ltb list_limit (length words) short, o, no_code code h))
