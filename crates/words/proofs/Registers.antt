-- "Registers are 0, 2, 4, 6": the test and the cases.
use mathlib.Core.Path.{◌≡◌}
use mathlib.Core.Bool.{true, false}
use mathlib.Core.Logic.{◌⊎◌, inl, inr}
use Prim.Native.Nat.{ℕ}
use borrow.Author.Tests.{ne_eqb}
use Rattle.words.specs.Instructions.{is_register}

abbrev pub OneOfFour : ℕ → Type 0
OneOfFour r = (r ≡ 0) ⊎ ((r ≡ 2) ⊎ ((r ≡ 4) ⊎ (r ≡ 6)))

pub is-register : (r : ℕ) → OneOfFour r → is_register r ≡ true
unfolding is_register
is-register r (inl e) = rw e
is-register r (inr (inl e)) = rw e
is-register r (inr (inr (inl e))) = rw e
is-register r (inr (inr (inr e))) = rw e

pub no_register : (r : ℕ) → (OneOfFour r → ⊥) → is_register r ≡ false
unfolding is_register
no_register r h =
    rw (
      ne_eqb r 0 (λ e. h (inl e)),
      ne_eqb r 2 (λ e. h (inr (inl e))),
      ne_eqb r 4 (λ e. h (inr (inr (inl e)))),
      ne_eqb r 6 (λ e. h (inr (inr (inr e)))),
    )
