-- What an accepted field is: its bounds.
use mathlib.Core.Path.{◌≡◌, refl}
use mathlib.Core.Bool.{Bool, true, false, cond, ◌&&◌, ◌||◌}
use mathlib.Core.Logic.{◌⊎◌, inl, inr, ◌≢◌}
use mathlib.Core.List.{List, [], ◌∷◌}
use Prim.Native.Nat.{ℕ, zero, suc, ◌≤◌, ◌<◌}
use native.Mathlib.Nat.{not-suc-le-zero, le_of_suc-le-suc}
use native.Mathlib.Omega.{arith}
use lib.Dec.{ltb, leb, eqb}
use lib.ListN.{length, get_or, drop}
use borrow.Author.Tests.{ltb-true, leb-true, eqb-true, eqb-false}
use Rattle.words.specs.declared.Form.{Form}
use Rattle.words.specs.declared.Form.TheVariants.{Unknown, LD, LDR, CellArithmetic, RegisterArithmetic, STD}
use Rattle.words.specs.declared.Areas.{Areas}
use Rattle.words.specs.Instructions.{table, last_operation, form_of, is_register, is_cell, cell_limit}
use Rattle.words.specs.Check.{operation_refusal, register_refusal, cell_refusal, operand_refusal}

-- a test that chooses between 0 and a refusal came out 0
pub passed : (b : Bool) (n : ℕ) → cond b 0 (suc n) ≡ 0 → b ≡ true
passed true n e = refl
passed false n e = let z : ◌≡◌ {A = ℕ} 0 1 = cc in absurd (omega arith)

pub eqb_cases : (a b : ℕ) → (a ≡ b) ⊎ (a ≢ b)
eqb_cases a b = go (eqb a b) refl
  where
    go : (t : Bool) → eqb a b ≡ t → (a ≡ b) ⊎ (a ≢ b)
    go true e = inl (eqb-true a b e)
    go false e = inr (eqb-false a b e)

pub both : (a b : Bool) → a && b ≡ true → (a ≡ true) × (b ≡ true)
both true true e = (refl, refl)
both true false e = (refl, e)
both false b e = (e, cc)

pub known_operation : (o : ℕ) → operation_refusal o ≡ 0 → (1 ≤ o) × (o ≤ last_operation)
unfolding operation_refusal
known_operation o e =
    let t = both (leb 1 o) (leb o last_operation) (passed (leb 1 o && leb o last_operation) 1 e) in
    (leb-true 1 o t.0, leb-true o last_operation t.1)

-- the register is the first of a row of tests that holds
pub known_register : (r : ℕ) → register_refusal r ≡ 0 → r ≤ 6
unfolding register_refusal is_register
known_register r e = four (passed (is_register r) 2 e)
  where
    either : (k : ℕ) (t : Bool) → (eqb r k || t) ≡ true → (t ≡ true → r ≤ 6) → k ≤ 6 → r ≤ 6
    either k t h later small = go (eqb r k) refl h
      where
        go : (b : Bool) → eqb r k ≡ b → (b || t) ≡ true → r ≤ 6
        go true q h' = omega (arith, eqb-true r k q)
        go false q h' = later h'

    four : is_register r ≡ true → r ≤ 6
    four h =
        either 0 (eqb r 2 || (eqb r 4 || eqb r 6)) h
        (λ h₂. either 2 (eqb r 4 || eqb r 6) h₂
        (λ h₄. either 4 (eqb r 6) h₄ (λ h₆. omega (arith, eqb-true r 6 h₆)) (omega arith)) (omega arith)) (omega arith)

known_cell : (area c : ℕ) → cell_refusal area c ≡ 0 → c < cell_limit
unfolding cell_refusal is_cell
known_cell area c e = ltb-true c cell_limit (both (ltb c cell_limit) (ltb c area) (passed (is_cell area c) 3 e)).0

abbrev pub is_known : Form → Bool
is_known Unknown = false
is_known LD = true
is_known LDR = true
is_known (CellArithmetic o) = true
is_known (RegisterArithmetic o) = true
is_known STD = true

abbrev all_known : List Form → Bool
all_known [] = true
all_known (f ∷ fs) = is_known f && all_known fs

known_at : (fs : List Form) → all_known fs ≡ true → (i : ℕ) → i < length fs → is_known (get_or fs i Unknown) ≡ true
known_at [] e i h = absurd (not-suc-le-zero h)
known_at (f ∷ fs) e zero h = (both (is_known f) (all_known fs) e).0
known_at (f ∷ fs) e (suc i) h = known_at fs (both (is_known f) (all_known fs) e).1 i (le_of_suc-le-suc h)

-- all rows of the table but row 0 are known
pub form_known : (o : ℕ) → 1 ≤ o → o ≤ last_operation → is_known (form_of o) ≡ true
form_known zero p h = absurd (not-suc-le-zero p)
form_known (suc o) p h = known_at (drop 1 table) refl o (omega arith)

pub known_operand : (areas : Areas) (o x : ℕ) → operation_refusal o ≡ 0 → operand_refusal areas (form_of o) x ≡ 0 → x < cell_limit
known_operand areas o x known e =
    let k = known_operation o known in go (form_of o) (form_known o k.0 k.1) e
  where
    go : (f : Form) → is_known f ≡ true → operand_refusal areas f x ≡ 0 → x < cell_limit
    go Unknown k e = let z : ◌≡◌ {A = ℕ} 0 1 = cc in absurd (omega arith)
    go LD k e = known_cell areas.operands x e
    go LDR k e = omega (arith, known_register x e)
    go (CellArithmetic o) k e = known_cell areas.operands x e
    go (RegisterArithmetic o) k e = omega (arith, known_register x e)
    go STD k e = known_cell areas.results x e
