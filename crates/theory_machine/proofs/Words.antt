-- What the check of a word, and of a list, tells of its instructions.
use mathlib.Core.Path.{◌≡◌, refl}
use mathlib.Core.Bool.{Bool, true, false, ◌||◌}
use mathlib.Core.Logic.{⊎_elim}
use mathlib.Core.List.{List, [], ◌∷◌}
use Prim.Native.Nat.{ℕ, zero, suc, ◌/◌, ◌≤◌, ◌<◌}
use native.Mathlib.Omega.{arith}
use lib.Dec.{ltb, eqb}
use lib.ListN.{length, get_or}
use borrow.Author.Tests.{ltb-true, ltb-false, eqb-true, eqb-false}
use Rattle.words.specs.declared.Areas.{Areas}
use Rattle.words.specs.declared.Form.{Form}
use Rattle.words.specs.declared.Form.TheVariants.{Unknown, LD, LDR, CellArithmetic, RegisterArithmetic, STD}
use Rattle.words.specs.Instructions.{form_of, operation_field, r1_field, operand_field, is_register, is_cell, cell_limit, list_limit}
use Rattle.words.specs.Check.{operation_refusal, register_refusal, cell_refusal, operand_refusal, word_refusal, first_bad, list_check}
use Rattle.words.proofs.Known.{passed, known_operation, is_known, form_known}
use Rattle.words.proofs.Passes.{none_first}
use Rattle.theory_machine.specs.Tags.{register_count}
use Rattle.theory_machine.specs.Instruction.{Instruction, no_instruction, load, store, copy, cell_arithmetic, register_arithmetic, index_of, instruction, decode}
use Rattle.theory_machine.specs.Machine.{Kind, Lent, areas_of}
use Rattle.theory_machine.specs.Issue.{word_at, refusal_of}
use Rattle.theory_machine.specs.Entries.{list_refusal}
use Rattle.theory_machine.proofs.Rows.{bool_cases, and_r, absurd_bool}

-- ONE WORD

abbrev pub WellFormed : Areas → Instruction → Type 0
WellFormed a no_instruction = ⊥
WellFormed a (load r c) = (r < register_count) × (is_cell a.operands c ≡ true)
WellFormed a (store r c) = (r < register_count) × (is_cell a.results c ≡ true)
WellFormed a (copy r x) = (r < register_count) × (x < register_count)
WellFormed a (cell_arithmetic o r c) = (r < register_count) × (is_cell a.operands c ≡ true)
WellFormed a (register_arithmetic o r x) = (r < register_count) × (x < register_count)

pub cell_in_area : (area c : ℕ) → is_cell area c ≡ true → c < area
unfolding is_cell
cell_in_area area c e = ltb-true c area (and_r (ltb c cell_limit) (ltb c area) e)

register_index : (r : ℕ) → register_refusal r ≡ 0 → index_of r < register_count
unfolding register_refusal is_register
register_index r e = go (eqb r 0) (eqb r 2) (eqb r 4) (eqb r 6) refl refl refl refl (passed (is_register r) 2 e)
  where
    go : (a b c d : Bool) → eqb r 0 ≡ a → eqb r 2 ≡ b → eqb r 4 ≡ c → eqb r 6 ≡ d → a || (b || (c || d)) ≡ true → r / 2 < 4
    go true b c d p q s t k = omega (arith, eqb-true r 0 p)
    go false true c d p q s t k = omega (arith, eqb-true r 2 q)
    go false false true d p q s t k = omega (arith, eqb-true r 4 s)
    go false false false true p q s t k = omega (arith, eqb-true r 6 t)
    go false false false false p q s t k = absurd_bool k refl

cell_good : (area c : ℕ) → cell_refusal area c ≡ 0 → is_cell area c ≡ true
unfolding cell_refusal
cell_good area c e = passed (is_cell area c) 3 e

formed : (a : Areas) (f : Form) (r x : ℕ) → is_known f ≡ true → index_of r < register_count → operand_refusal a f x ≡ 0 → WellFormed a (instruction f r x)
formed a Unknown r x k h e = absurd_bool k refl
formed a LD r x k h e = (h, cell_good a.operands x e)
formed a LDR r x k h e = (h, register_index x e)
formed a (CellArithmetic o) r x k h e = (h, cell_good a.operands x e)
formed a (RegisterArithmetic o) r x k h e = (h, register_index x e)
formed a STD r x k h e = (h, cell_good a.results x e)

pub word_formed : (a : Areas) (w : ℕ) → word_refusal a w ≡ 0 → WellFormed a (decode w)
unfolding word_refusal decode
word_formed a w e =
    let f : Form = form_of (operation_field w) in
    let o : ℕ = operand_refusal a f (operand_field w) in
    let p = none_first (operation_refusal (operation_field w)) (register_refusal (r1_field w) ∷ o ∷ []) e in
    let q = none_first (register_refusal (r1_field w)) (o ∷ []) p.1 in
    formed a f (r1_field w) (operand_field w) (let k = known_operation (operation_field w) p.0 in form_known (operation_field w) k.0 k.1) (register_index (r1_field w) q.0) (none_first o [] q.1).0

-- A LIST

-- the first bad word is past every good one
no_bad : (a : Areas) (k : ℕ) (ws : List ℕ) → (first_bad a k ws).refusal ≡ 0 → (q : ℕ) → q < length ws → word_refusal a (get_or ws q 0) ≡ 0
no_bad a k [] e q h = absurd (omega arith)
no_bad a k (w ∷ ws) e q h =
    ⊎_elim (λ (t : eqb (word_refusal a w) 0 ≡ true). good q h (eqb-true (word_refusal a w) 0 t) (λ q h. no_bad a (suc k) ws (rw t at e) q h))
    (λ (t : eqb (word_refusal a w) 0 ≡ false). absurd (eqb-false (word_refusal a w) 0 t (rw t at e)))
    (bool_cases (eqb (word_refusal a w) 0))
  where
    good : (q : ℕ) → q < length (w ∷ ws) → word_refusal a w ≡ 0 → ((q : ℕ) → q < length ws → word_refusal a (get_or ws q 0) ≡ 0) → word_refusal a (get_or (w ∷ ws) q 0) ≡ 0
    good zero h z f = z
    good (suc q) h z f = f q (omega arith)

list_good : (a : Areas) (ws : List ℕ) → (list_check a ws).refusal ≡ 0
    → (length ws ≤ list_limit) × ((q : ℕ) → q < length ws → word_refusal a (get_or ws q 0) ≡ 0)
unfolding list_check
list_good a ws e =
    ⊎_elim (λ (t : ltb list_limit (length ws) ≡ true). absurd (omega (arith, rw t at e)))
    (λ (t : ltb list_limit (length ws) ≡ false). (ltb-false list_limit (length ws) t, no_bad a 0 ws (rw t at e)))
    (bool_cases (ltb list_limit (length ws)))

pub record Passes (K : Kind) (L : Lent K.Num) : Type 0 where
  pub short : length L.words ≤ list_limit
  pub sound : (q : ℕ) → q < length L.words → refusal_of K L (word_at K L q) ≡ 0

pub passes : (K : Kind) (L : Lent K.Num) → list_refusal K L ≡ 0 → Passes K L
passes K L e = let g = list_good (areas_of L) L.words e in record { short = g.0; sound = g.1 }

-- past the end of the list stands no instruction
pub no_instruction_lem : decode 0 ≡ no_instruction
unfolding decode
no_instruction_lem = refl
