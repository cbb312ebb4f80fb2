use mathlib.Core.Path.{sym, ◌∙◌, subst}
use mathlib.Core.Bool.{Bool, not}
use lib.Dec.{T}
use lib.Ieee.{to_bits}
use Rattle.numbers.proofs.NotANumber.{is_nan_lem}
use Rattle.numbers.proofs.pattern_of.Goals as goal

pub returns-then-is_nan : goal.returns-then-is_nan
unfolding to_bits
returns-then-is_nan c = rw (is_nan_lem _ (sym c.is_nan.ensures.value ∙ c.if-is_nan.true))

pub float_to_bits-result : goal.float_to_bits-result
float_to_bits-result c = subst (λ (b : Bool). T (not b)) (sym (sym c.is_nan.ensures.value ∙ c.if-is_nan.false)) tt
