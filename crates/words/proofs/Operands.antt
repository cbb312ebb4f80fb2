-- The operand's refusal, by what the operand is held to: a register's number or a cell's.
use mathlib.Core.Path.{◌≡◌, refl, sym, ap, ◌∙◌}
use mathlib.Core.Bool.{Bool, true, false, cond, not, ◌&&◌, true≢false}
use mathlib.Core.Logic.{inl, inr, ⊎_elim, ◌≢◌}
use mathlib.Core.List.{List, [], ◌∷◌}
use Prim.Native.Nat.{ℕ, zero, suc, ◌+◌, ◌-◌, ◌≤◌, ◌<◌, ◌%◌}
use native.Mathlib.Nat.{add-zero, not-suc-le-zero, le_of_suc-le-suc}
use native.Mathlib.Omega.{arith}
use lib.Bits.{bit_and, and_mask, and_zero_r}
use lib.Dec.{ltb, eqb}
use lib.ListN.{length, get_or, drop, get_or-eq_default}
use borrow.Author.Tests.{ltb-true, ltb-false, lt-ltb, le-ltb, le-leb, eqb-true, eqb-false}
use Rattle.words.specs.declared.Form.{Form}
use Rattle.words.specs.declared.Form.TheVariants.{Unknown, LD, LDR, CellArithmetic, RegisterArithmetic, STD}
use Rattle.words.specs.declared.Areas.{Areas}
use Rattle.words.specs.declared.refusal.Refusal.{Refusal}
use Rattle.words.specs.declared.refusal.Refusal.TheVariants.{Register, Cell}
use Rattle.words.specs.Refusals.{number}
use Rattle.words.specs.Instructions.{table, form_of, is_cell, last_operation, cell_limit}
use Rattle.words.specs.Operands.{held_refusal}
use Rattle.words.specs.Check.{operation_refusal, register_refusal, cell_refusal, operand_refusal}
use Rattle.words.proofs.Known.{is_known, both, eqb_cases, known_operation, form_known}
use Rattle.words.proofs.Registers.{OneOfFour, is-register, no_register}

abbrev takes_register : Form → Bool
takes_register Unknown = false
takes_register LD = false
takes_register LDR = true
takes_register (CellArithmetic o) = false
takes_register (RegisterArithmetic o) = true
takes_register STD = false

abbrev is_store : Form → Bool
is_store Unknown = false
is_store LD = false
is_store LDR = false
is_store (CellArithmetic o) = false
is_store (RegisterArithmetic o) = false
is_store STD = true

-- above its area a cell is refused, whatever the limit says
no_cell : (b : Bool) → ◌≡◌ {A = ℕ} 4 (cond (b && false) 0 4)
no_cell true = refl
no_cell false = refl

even_small : (r : ℕ) → r < 8 → r % 2 ≡ 0 → OneOfFour r
even_small r h e =
    ⊎_elim inl
    (λ (a : r ≢ 0). inr (⊎_elim inl (λ (b : r ≢ 2). inr (⊎_elim inl (λ (d : r ≢ 4). inr (omega arith)) (eqb_cases r 4))) (eqb_cases r 2)))
    (eqb_cases r 0)

by_kind : (areas : Areas) (x : ℕ) (f : Form) → is_known f ≡ true → held_refusal x (takes_register f) (cond (is_store f) areas.results areas.operands) ≡ operand_refusal areas f x
by_kind areas x Unknown e = absurd (true≢false (sym e))
by_kind areas x LD e = refl
by_kind areas x LDR e = refl
by_kind areas x (CellArithmetic o) e = refl
by_kind areas x (RegisterArithmetic o) e = refl
by_kind areas x STD e = refl

module _ (x area : ℕ) where
  pub above_limit : (r : Bool) → cond r 8 area ≤ x → cond r 3 4 ≡ held_refusal x r area
  unfolding register_refusal cell_refusal is_cell
  above_limit true h = rw (no_register x (λ (o : OneOfFour x). no-four o))
    where
      no-four : OneOfFour x → ⊥
      no-four (inl e) = omega arith
      no-four (inr (inl e)) = omega arith
      no-four (inr (inr (inl e))) = omega arith
      no-four (inr (inr (inr e))) = omega arith
  above_limit false h = rw (le-ltb x area h) (no_cell (ltb x cell_limit))

  pub above_cells : (r : Bool) → x < cond r 8 area → cell_limit ≤ x → cond r 3 4 ≡ held_refusal x r area
  unfolding cell_refusal is_cell
  above_cells true h g = absurd (omega arith)
  above_cells false h g = rw (le-ltb x cell_limit g)

  -- m is the operand's lowest bit for a register, and 0 for a cell
  pub odd_one : (r : Bool) (m : ℕ) → m ≡ cond r (x % 2) 0 → (m ≡ 0 → ⊥) → cond r 3 4 ≡ held_refusal x r area
  unfolding register_refusal
  odd_one true m e n = rw (no_register x (λ (o : OneOfFour x). even o))
    where
      even : OneOfFour x → ⊥
      even (inl z) = n (omega arith)
      even (inr (inl z)) = n (omega arith)
      even (inr (inr (inl z))) = n (omega arith)
      even (inr (inr (inr z))) = n (omega arith)
  odd_one false m e n = absurd (n e)

  pub passes : (r : Bool) (m : ℕ) → m ≡ cond r (x % 2) 0 → x < cond r 8 area → x < cell_limit → m ≡ 0 → 0 ≡ held_refusal x r area
  unfolding register_refusal cell_refusal is_cell
  passes true m e h g z = rw (is-register x (even_small x h (omega arith)))
  passes false m e h g z = rw (lt-ltb x cell_limit g, lt-ltb x area h)

-- what the operand is held to, as the code chose it: a limit, and an odd bit
pub record Judged (x : ℕ) (register : Bool) (area limit odd : ℕ) (refusal : Refusal) : Type 0 where
  pub above : limit ≤ x → number refusal ≡ held_refusal x register area
  pub beyond : x < limit → cell_limit ≤ x → number refusal ≡ held_refusal x register area
  pub uneven : (bit_and x odd ≡ 0 → ⊥) → number refusal ≡ held_refusal x register area
  pub good : x < limit → x < cell_limit → bit_and x odd ≡ 0 → 0 ≡ held_refusal x register area

odd_bit : (x : ℕ) (r : Bool) → bit_and x (cond r 1 0) ≡ cond r (x % 2) 0
odd_bit x true = and_mask x 1
odd_bit x false = and_zero_r x

number_chosen : (r : Bool) → number (cond r Register Cell) ≡ cond r 3 4
number_chosen true = refl
number_chosen false = refl

judged : (x : ℕ) (r : Bool) (area : ℕ) → {limit odd : ℕ} {refusal : Refusal} → limit ≡ cond r 8 area → odd ≡ cond r 1 0 → refusal ≡ cond r Register Cell → Judged x r area limit odd refusal
judged x r area {limit} {odd} {refusal} el eo er =
    let m : bit_and x odd ≡ cond r (x % 2) 0 = rw eo (odd_bit x r) in
    let en : number refusal ≡ cond r 3 4 = ap number er ∙ number_chosen r in
    record {
      above = λ h. en ∙ above_limit x area r (rw el at h);
      beyond = λ h g. en ∙ above_cells x area r (rw el at h) g;
      uneven = λ n. en ∙ odd_one x area r (bit_and x odd) m n;
      good = λ h g z. passes x area r (bit_and x odd) m (rw el at h) g z;
    }

-- the odd bit as the code reckons it: 1 for an operation that takes a register
odd_for : (o : ℕ) → 1 - o % 2 ≡ cond (eqb (o % 2) 0) 1 0
odd_for o = go (eqb (o % 2) 0) refl
  where
    go : (b : Bool) → eqb (o % 2) 0 ≡ b → 1 - o % 2 ≡ cond b 1 0
    go true e = let z : o % 2 ≡ 0 = eqb-true (o % 2) 0 e in omega arith
    go false e = let n : o % 2 ≢ 0 = eqb-false (o % 2) 0 e in omega arith

even_so : (o : ℕ) → not (eqb (1 - o % 2) 0) ≡ eqb (o % 2) 0
even_so o = ap (λ n. not (eqb n 0)) (odd_for o) ∙ back (eqb (o % 2) 0)
  where
    back : (b : Bool) → not (eqb (cond b 1 0) 0) ≡ b
    back true = refl
    back false = refl

pub judged_for : (x o area : ℕ) → {limit : ℕ} {refusal : Refusal} → limit ≡ cond (not (eqb (1 - o % 2) 0)) 8 area → refusal ≡ cond (not (eqb (1 - o % 2) 0)) Register Cell
    → Judged x (eqb (o % 2) 0) area limit (1 - o % 2) refusal
judged_for x o area el er =
    judged x (eqb (o % 2) 0) area (el ∙ ap (λ b. cond b 8 area) (even_so o)) (odd_for o) (er ∙ ap (λ b. cond b Register Cell) (even_so o))

-- the operations that take a register are the even ones, and the last one stores: row by row of the table
abbrev same : Bool → Bool → Bool
same true b = b
same false b = not b

same_so : (a b : Bool) → same a b ≡ true → a ≡ b
same_so true true e = refl
same_so true false e = sym e
same_so false true e = e
same_so false false e = refl

abbrev kinds_from : (n : ℕ) → List Form → Bool
kinds_from n [] = true
kinds_from n (f ∷ fs) = same (takes_register f) (eqb (n % 2) 0) && (same (is_store f) (eqb n 11) && kinds_from (suc n) fs)

abbrev KindOf : (n : ℕ) → Form → Type 0
KindOf n f = (takes_register f ≡ eqb (n % 2) 0) × (is_store f ≡ eqb n 11)

kinds_at : (fs : List Form) (n : ℕ) → kinds_from n fs ≡ true → (i : ℕ) → i < length fs → KindOf (n + i) (get_or fs i Unknown)
kinds_at [] n e i h = absurd (not-suc-le-zero h)
kinds_at (f ∷ fs) n e zero h =
    let t = both (same (takes_register f) (eqb (n % 2) 0)) (same (is_store f) (eqb n 11) && kinds_from (suc n) fs) e in
    let u = both (same (is_store f) (eqb n 11)) (kinds_from (suc n) fs) t.1 in
    rw (add-zero n) (same_so (takes_register f) (eqb (n % 2) 0) t.0, same_so (is_store f) (eqb n 11) u.0)
kinds_at (f ∷ fs) n e (suc i) h =
    let t = both (same (takes_register f) (eqb (n % 2) 0)) (same (is_store f) (eqb n 11) && kinds_from (suc n) fs) e in
    let u = both (same (is_store f) (eqb n 11)) (kinds_from (suc n) fs) t.1 in
    let z : n + suc i ≡ suc n + i = omega arith in
    rw z (kinds_at fs (suc n) u.1 i (le_of_suc-le-suc h))

kind_of : (o : ℕ) → 1 ≤ o → o ≤ last_operation → KindOf o (form_of o)
kind_of zero p h = absurd (not-suc-le-zero p)
kind_of (suc o) p h = let z : 1 + o ≡ suc o = omega arith in rw (← z) (kinds_at (drop 1 table) 1 refl o (omega arith))

pub by_its_operation : (areas : Areas) (x o : ℕ) → operation_refusal o ≡ 0
    → held_refusal x (eqb (o % 2) 0) (cond (eqb o 11) areas.results areas.operands) ≡ operand_refusal areas (form_of o) x
by_its_operation areas x o e =
    let k = known_operation o e in
    let t = kind_of o k.0 k.1 in
    (λ i. held_refusal x (sym t.0 i) (cond (sym t.1 i) areas.results areas.operands)) ∙ by_kind areas x (form_of o) (form_known o k.0 k.1)

-- an operation that is refused asks for nothing
formless : (o : ℕ) → (operation_refusal o ≡ 0 → ⊥) → form_of o ≡ Unknown
unfolding operation_refusal
formless zero n = refl
formless (suc o) n = go (ltb last_operation (suc o)) refl
  where
    go : (b : Bool) → ltb last_operation (suc o) ≡ b → form_of (suc o) ≡ Unknown
    go true e = get_or-eq_default table Unknown (ltb-true last_operation (suc o) e)
    go false e = absurd (n (rw (le-leb 1 (suc o) (omega arith), le-leb (suc o) last_operation (ltb-false last_operation (suc o) e))))

pub by_none : (areas : Areas) (x o : ℕ) → (operation_refusal o ≡ 0 → ⊥) → 0 ≡ operand_refusal areas (form_of o) x
by_none areas x o n = rw (formless o n)
