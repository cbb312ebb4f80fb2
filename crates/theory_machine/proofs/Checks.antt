-- "check the list and then 6": what the two tests come to.
use mathlib.Core.Path.{◌≡◌, refl}
use mathlib.Core.Bool.{Bool, true, false, cond}
use mathlib.Core.List.{List, [], ◌∷◌}
use Prim.Native.Nat.{ℕ}
use native.Mathlib.Omega.{arith}
use borrow.Author.Tests.{eq-eqb, ne_eqb}
use Rattle.words.specs.declared.Areas.{Areas}
use Rattle.words.specs.Check.{first_of, list_check}
use Rattle.words.proofs.Passes.{none_first}
use Rattle.theory_machine.specs.Machine.{Kind, Machine}
use Rattle.theory_machine.specs.GoodOrder.{good_order}
use Rattle.theory_machine.specs.Entries.{entry_refusal}

module _ (K : Kind) (words : List ℕ) (areas : Areas) (m : Machine K.Num) where
  pub by_list : ((list_check areas words).refusal ≡ 0 → ⊥) → entry_refusal K words areas m ≡ (list_check areas words).refusal
  unfolding entry_refusal
  by_list n = rw (ne_eqb (list_check areas words).refusal 0 n)

  module _ (z : (list_check areas words).refusal ≡ 0) where
    pub by_order : good_order K words areas m ≡ false → entry_refusal K words areas m ≡ 6
    unfolding entry_refusal
    by_order o = rw (eq-eqb (list_check areas words).refusal 0 z, o)

    pub both_pass : good_order K words areas m ≡ true → entry_refusal K words areas m ≡ 0
    unfolding entry_refusal
    both_pass o = rw (eq-eqb (list_check areas words).refusal 0 z, o)

  pub list_passed : entry_refusal K words areas m ≡ 0 → (list_check areas words).refusal ≡ 0
  unfolding entry_refusal
  list_passed e = (none_first (list_check areas words).refusal (cond (good_order K words areas m) 0 6 ∷ []) e).0

  pub order_passed : entry_refusal K words areas m ≡ 0 → good_order K words areas m ≡ true
  unfolding entry_refusal
  order_passed e = go (good_order K words areas m) (none_first (list_check areas words).refusal (cond (good_order K words areas m) 0 6 ∷ []) e).1
    where
      go : (b : Bool) → first_of (cond b 0 6 ∷ []) ≡ 0 → b ≡ true
      go true e = refl
      go false e = absurd (omega arith)
