-- The order theorem speaks of the code (statements: specs/Chain.antt).
use mathlib.Core.Path.{◌≡◌, refl, sym, ap, ◌∙◌}
use mathlib.Core.Bool.{Bool, true, false, cond}
use mathlib.Core.Option.{Option, none, some}
use mathlib.Core.List.{List, []}
use Prim.Native.Nat.{ℕ, ◌+◌}
use lib.Dec.{eqb}
use lib.Ieee.{Float}
use lib.ListN.{length, length-set}
use borrow.Author.Tests.{eqb-true}
use Rattle.theory_machine.specs.Machine as theory
use Rattle.theory_machine.specs.Machine.{Lent}
use Rattle.theory_machine.specs.Binary64.{binary64}
use Rattle.theory_machine.specs.Issue.{is_taken}
use Rattle.theory_machine.specs.OneAtATime.{Run}
use Rattle.theory_machine.specs.Entries.{list_refusal, Fresh, fresh}
use Rattle.theory_machine.specs.Asked.{State, written, logged, after, ask, asked, taken_of, begin}
use Rattle.theory_machine.proofs.Theorems.{order_theorem}
use Rattle.machine_parts.specs.declared.Stepped.{Stepped}
use Rattle.machine_parts.specs.View.{view, released_by, lent}
use Rattle.machine_steps.specs.Step.{StepAnswer}
use Rattle.machine_steps.specs.Chain.{Stand, seen, freshly, next, Chained, here, then, taken_in, Bridge, DemandThree}

-- a release leaves the result area as long as it was
written-long : (cells : List Float) (o : Option (theory.Record Float)) → length (written cells o) ≡ length cells
written-long cells none = refl
written-long cells (some r) = length-set cells r.cell r.number

module _ (words : List ℕ) (operands : List Float) where
  -- only the length of the result area counts
  same-lent : (cells others : List Float) → length cells ≡ length others → lent words operands cells ≡ lent words operands others
  same-lent cells others e = ap (λ (n : ℕ). record { words = words; operands = operands; results = n }) e

  -- one answer is one code asked
  one : (s : Stand) (code : ℕ) (r : Stepped) (cells : List Float) → StepAnswer words operands s.machine s.cells code r cells
      → ask binary64 (lent words operands s.cells) (seen s) code ≡ seen (next s r cells)
  one s code r cells a =
      ap (after (seen s)) (sym a.answer)
      ∙ ap (λ (c : List Float). record { machine = view r.machine; cells = c; log = logged s.log (released_by r.outcome) }) (sym a.after)

  -- what is made of the state after one code asked is made of where its answer leads
  onward : {B : Type 0} (made : Lent Float → State Float → B) (s : Stand) (code : ℕ) (r : Stepped) (cells : List Float)
      → StepAnswer words operands s.machine s.cells code r cells
      → made (lent words operands s.cells) (ask binary64 (lent words operands s.cells) (seen s) code)
      ≡ made (lent words operands cells) (seen (next s r cells))
  onward made s code r cells a =
      let long = sym (ap length a.after ∙ written-long s.cells (released_by r.outcome)) in
      (λ i. made (same-lent s.cells cells long i) (one s code r cells a i))

  pub bridge : Bridge words operands
  bridge s t codes here = refl
  bridge s t codes (then {code = code} {codes = rest} r cells a chain) =
      onward (λ l z. asked binary64 l z rest) s code r cells a ∙ bridge (next s r cells) t rest chain

  -- as many are taken on paper as answers say so
  taken-so : (s t : Stand) (codes : List ℕ) (chain : Chained words operands s codes t)
      → taken_of binary64 (lent words operands s.cells) (seen s) codes ≡ taken_in words operands s t codes chain
  taken-so s t codes here = refl
  taken-so s t codes (then {code = code} {codes = rest} r cells a chain) =
      let later = onward (λ l z. taken_of binary64 l z rest) s code r cells a ∙ taken-so (next s r cells) t rest chain in
      (λ i. cond (is_taken (sym a.answer i)) 1 0 + later i)

-- an accepted fresh machine: the list passes
fresh_passes : (L : Lent Float) (starts : List Float) → (fresh binary64 L starts).refusal ≡ 0 → list_refusal binary64 L ≡ 0
unfolding fresh
fresh_passes L starts e = go (eqb (list_refusal binary64 L) 0) refl
  where
    go : (b : Bool) → eqb (list_refusal binary64 L) 0 ≡ b → list_refusal binary64 L ≡ 0
    go true t = eqb-true (list_refusal binary64 L) 0 t
    go false t = rw t at e

pub demand_three : (words : List ℕ) (operands : List Float) → DemandThree words operands
demand_three words operands starts cells four f made ok t codes chain =
    let L = lent words operands cells in
    let start : Run Float = record { registers = starts; cells = cells } in
    let passes = fresh_passes L starts (ap (λ (x : Fresh Float). x.refusal) (sym made) ∙ ok) in
    let begun : begin binary64 L start ≡ seen (freshly f cells) =
    ap (λ (x : Fresh Float). record { machine = x.machine; cells = cells; log = [] }) (sym made) in
    let reached : asked binary64 L (begin binary64 L start) codes ≡ seen t =
    ap (λ (z : State Float). asked binary64 L z codes) begun ∙ bridge words operands (freshly f cells) t codes chain in
    let many = ap (λ (z : State Float). taken_of binary64 L z codes) begun ∙ taken-so words operands (freshly f cells) t codes chain in
    rw (reached, many) at (order_theorem binary64 L start passes four refl codes)
