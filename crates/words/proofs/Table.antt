-- Outside 1 to the last operation the instruction table has no form.
use mathlib.Core.Path.{◌≡◌, refl}
use mathlib.Core.Bool.{Bool, true, false}
use Prim.Native.Nat.{ℕ, zero, suc, ◌<◌}
use native.Mathlib.Omega.{arith}
use lib.Dec.{ltb}
use lib.ListN.{get_or-eq_default}
use borrow.Author.Tests.{ltb-true, ltb-false}
use Rattle.words.specs.declared.Form.TheVariants.{Unknown}
use Rattle.words.specs.Instructions.{table, form_of, last_operation}

-- n is none of 1 to k
abbrev pub NoneUpTo : (k n : ℕ) → Type 0
NoneUpTo zero n = Unit
NoneUpTo (suc k) n = NoneUpTo k n × (n ≡ suc k → ⊥)

beyond : (k n : ℕ) → NoneUpTo k n → 0 < n → k < n
beyond zero n h p = p
beyond (suc k) n h p = let b : k < n = beyond k n h.0 p in omega (arith, h.1)

pub no_form : (n : ℕ) → NoneUpTo last_operation n → form_of n ≡ Unknown
no_form n h = go (ltb 0 n) refl
  where
    go : (b : Bool) → ltb 0 n ≡ b → form_of n ≡ Unknown
    go true e = get_or-eq_default table Unknown (beyond last_operation n h (ltb-true 0 n e))
    go false e = let z : n ≡ 0 = omega (arith, ltb-false 0 n e) in rw z
