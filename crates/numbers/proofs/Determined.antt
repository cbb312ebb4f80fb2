-- What it means that a contract determines: two results that it allows for the same arguments are equal.
use mathlib.Core.Path.{◌≡◌, sym, ◌∙◌}
use mathlib.Core.List.{List}
use Prim.Native.Nat.{ℕ}
use contract.Lifetimes.{Lfts}
use denote.Triple.Clauses.{AtExit}
use borrow.Fn.Kinds.{ParamKind, ResultKind, Out, Dens, res_t, ended_of}

-- of a function that lends nothing to be written: the result
abbrev pub Determines : (n : ℕ) (ps : List (ParamKind n)) (r : ResultKind n) → Out n ps r → Type 0
Determines n ps r Post =
    (κs : Lfts n) (a : Dens κs ps) (x y : (res_t r κs).Denot) (s t : AtExit (ended_of n ps r) κs) → Post κs a x s → Post κs a y t → x ≡ y

-- of a function that is lent something to be written: the result, and what is lent as the function returns
abbrev pub DeterminesLent : (n : ℕ) (ps : List (ParamKind n)) (r : ResultKind n) → Out n ps r → {B : Type 0} → ((κs : Lfts n) → AtExit (ended_of n ps r) κs → B) → Type 0
DeterminesLent n ps r Post lent =
    (κs : Lfts n) (a : Dens κs ps) (x y : (res_t r κs).Denot) (s t : AtExit (ended_of n ps r) κs) → Post κs a x s → Post κs a y t
    → (x ≡ y) × (lent κs s ≡ lent κs t)

-- two values that are both the definition's are equal
pub one_answer {ℓ} : {A : Type ℓ} {x y z : A} → x ≡ z → y ≡ z → x ≡ y
one_answer p q = p ∙ sym q

pub both_answers {ℓ κ} : {A : Type ℓ} {B : Type κ} {x y z : A} {u v w : B} → (x ≡ z) × (u ≡ w) → (y ≡ z) × (v ≡ w) → (x ≡ y) × (u ≡ v)
both_answers p q = (one_answer p.0 q.0, one_answer p.1 q.1)
