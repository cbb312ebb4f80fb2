-- An array that a closure of the index made.
use mathlib.Core.Path.{◌≡◌, refl, ap, ◌∙◌, subst}
use mathlib.Core.List.{List, map}
use Prim.Native.Nat.{ℕ, zero, suc, ◌+◌, ◌<◌}
use native.Mathlib.Nat.{add-zero, zero-add}
use native.Mathlib.Omega.{arith}
use lib.ListN.{get_or, get_or-map, length-map}
use denote.Param.Members.{Mut}
use Rattle.std.specs.Fn.{Called}
use Rattle.std.specs.Array.{IsFromFnResultFrom, IsFromFnResult}
use Rattle.std.specs.List.{range_with_len}
use Rattle.std.proofs.lemmas.List.FromFn.{fill_by_all}

-- a closure that no call changes, and whose results are the slots, seen
module _ {F B C : Type 0} {g : Mut F (ℕ × Unit {0}) B} (f : F) (v : B → C) (slot : ℕ → C) (ys : List B) (n : ℕ)
    (calls : (k : ℕ) (y : B) (q : F) → k < n → Called g f (k, tt) y q → (q ≡ f) × (v y ≡ slot k)) where
  made-from : (count i : ℕ) → i + count ≡ n → (p : F) → p ≡ f → IsFromFnResultFrom g p ys i count
      → (k : ℕ) → k < count → (d : B) → v (get_or ys (i + k) d) ≡ slot (i + k)
  made-from zero i e p z r k h d = absurd (omega arith)
  made-from (suc count) i e p z r zero h d =
      let called : Called g f (i, tt) r.1 r.0 = subst (λ s. Called g s (i, tt) r.1 r.0) z r.3 in
      rw (add-zero i) (ap v (r.2.1 d) ∙ (calls i r.1 r.0 (omega arith) called).1)
  made-from (suc count) i e p z r (suc k) h d =
      let called : Called g f (i, tt) r.1 r.0 = subst (λ s. Called g s (i, tt) r.1 r.0) z r.3 in
      let next : i + suc k ≡ i + 1 + k = omega arith in
      rw next (made-from count (i + 1) (omega arith) r.0 (calls i r.1 r.0 (omega arith) called).0 r.4 k (omega arith) d)

  pub made : IsFromFnResult g f ys n → B → map v ys ≡ map slot (range_with_len 0 n)
  made r d =
      fill_by_all slot (map v ys) n (v d) (length-map ys v ∙ r.long)
      (λ k h. get_or-map v ys k d ∙ rw (zero-add k) at (made-from n 0 (zero-add n) f refl r.each k h d))
