-- The log is complete: of every place, the records in the log and the live store buffers together are the stores issued there, one or none.
use mathlib.Core.Path.{◌≡◌, refl, sym, ap, ◌∙◌}
use mathlib.Core.Bool.{Bool, true, false, cond}
use mathlib.Core.Option.{Option, none, some}
use mathlib.Core.Logic.{⊎_elim, ◌≢◌}
use mathlib.Core.List.{List, [], ◌∷◌, map}
use Prim.Native.Nat.{ℕ, suc, ◌+◌, ◌≤◌}
use native.Mathlib.Omega.{arith}
use lib.Dec.{ltb, eqb}
use lib.ListN.{length, get_or-eq_default}
use borrow.Author.Tests.{ltb-true, ltb-false, lt-ltb, le-ltb, eq-eqb, ne_eqb}
use Rattle.theory_machine.specs.Rows.{sum}
use Rattle.theory_machine.specs.Tags.{buffer_tag, station_tag}
use Rattle.theory_machine.specs.Instruction.{Instruction, no_instruction, load, store, copy, cell_arithmetic, register_arithmetic, decode}
use Rattle.theory_machine.specs.Machine.{Kind, Lent, num, StoreBuffer, free_store, live, Machine, Shape, Record, register_at}
use Rattle.theory_machine.specs.Issue.{instruction_at}
use Rattle.theory_machine.specs.Steps.{give_store}
use Rattle.theory_machine.specs.Asked.{written, logged, written_all}
use Rattle.theory_machine.specs.Statement.{records_of, records_due}
use Rattle.words.proofs.Known.{eqb_cases}
use Rattle.theory_machine.proofs.Rows.{bool_cases, sum_swap, sum-map, sum_snoc, sum_zero}
use Rattle.theory_machine.proofs.Words.{no_instruction_lem}
use Rattle.theory_machine.proofs.Issue.{Room, issued}
use Rattle.theory_machine.proofs.Moves.{Move, issuing, arriving, completing, granting_buffer, granting_station, releasing, moved, effect}
use Rattle.theory_machine.proofs.Progress.{Still}

-- THE CELLS ARE THE LOG, written in order

pub written_snoc : {A : Type 0} (cells : List A) (log : List (Record A)) (e : Option (Record A))
    → written_all cells (logged log e) ≡ written (written_all cells log) e
written_snoc cells log none = refl
written_snoc cells [] (some r) = refl
written_snoc cells (x ∷ log) (some r) = written_snoc (written cells (some x)) log (some r)

-- EACH STORE ONCE

-- 1 where a store buffer holds place q
abbrev holds_place : {A : Type 0} → (q : ℕ) → StoreBuffer A → ℕ
holds_place q free_store = 0
holds_place q (live p c x) = cond (eqb p q) 1 0

module _ (K : Kind) (L : Lent K.Num) where
  -- the stores of place q among the first n instructions: one or none
  abbrev issued_of : (n q : ℕ) → ℕ
  issued_of n q = cond (ltb q n) (records_due (instruction_at K L q)) 0

  -- one instruction more
  issued-next : (n q k : ℕ) → records_due (instruction_at K L n) ≡ k → issued_of (suc n) q ≡ issued_of n q + cond (eqb n q) k 0
  issued-next n q k e =
      ⊎_elim
      (λ (d : q ≡ n). rw (d, lt-ltb n (suc n) (omega arith), le-ltb n n (omega arith), eq-eqb n n refl) (omega (arith, e)))
      (λ (d : q ≢ n). rw (ne_eqb n q (λ (z : n ≡ q). d (sym z))) (⊎_elim
      (λ (l : ltb q n ≡ true). rw (l, lt-ltb q (suc n) (omega (arith, ltb-true q n l))) (omega arith))
      (λ (l : ltb q n ≡ false). rw (l, le-ltb q (suc n) (omega (arith, ltb-false q n l))) (omega arith)) (bool_cases (ltb q n))))
      (eqb_cases q n)

  zero_or : (b : Bool) → ◌≡◌ {A = ℕ} (cond b 0 0) 0
  zero_or true = refl
  zero_or false = refl

  abbrev pub Balanced : Machine K.Num → List (Record K.Num) → Type 0
  Balanced m log = (q : ℕ) → records_of q log + sum (holds_place q) m.stores ≡ issued_of m.next q

  module _ (m : Machine K.Num) (S : Shape m) (log : List (Record K.Num)) (B : Balanced m log) where
    quiet-issue : records_due (instruction_at K L m.next) ≡ 0 → (q : ℕ) → records_of q log + sum (holds_place q) m.stores ≡ issued_of (suc m.next) q
    quiet-issue e q = B q ∙ omega (arith, issued-next m.next q 0 e, zero_or (eqb m.next q))

    issue-balanced : (i : Instruction) (b s t : ℕ) → instruction_at K L m.next ≡ i → Room m i b s t → Balanced (issued K m i b s t) log
    issue-balanced no_instruction b s t e r = absurd r
    issue-balanced (load a c) b s t e r = quiet-issue (ap records_due e)
    issue-balanced (copy a x) b s t e r = quiet-issue (ap records_due e)
    issue-balanced (cell_arithmetic o a c) b s t e r = quiet-issue (ap records_due e)
    issue-balanced (register_arithmetic o a x) b s t e r = quiet-issue (ap records_due e)
    issue-balanced (store a c) b s t e r = λ q.
        omega (
          arith,
          B q,
          issued-next m.next q 1 (ap records_due e),
          sum_swap (holds_place q) free_store m.stores t free_store (live m.next c (register_at K m a)) (omega (arith, r.1.0, S)) r.1.1,
        )

    grant-balanced : (t : ℕ) (v : K.Num) (q : ℕ) → records_of q log + sum (holds_place q) (map (give_store t v) m.stores) ≡ issued_of m.next q
    grant-balanced t v q = omega (arith, B q, sum-map (holds_place q) (give_store t v) one m.stores)
      where
        one : (s : StoreBuffer K.Num) → holds_place q (give_store t v s) ≡ holds_place q s
        one free_store = refl
        one (live p c x) = refl

    pub balanced_moved : (v : Move K L m) → Balanced (moved K L m v) (logged log (effect K L m v))
    balanced_moved (issuing b s t h r w) = issue-balanced (instruction_at K L m.next) b s t refl r
    balanced_moved (arriving i p c h e) = B
    balanced_moved (completing i p o x y h e) = B
    balanced_moved (granting_buffer i p v h e) = grant-balanced (buffer_tag i) v
    balanced_moved (granting_station i p v h e) = grant-balanced (station_tag i) v
    balanced_moved (releasing i p c v h e) = λ q.
        omega (
          arith,
          B q,
          sum_snoc (λ r. cond (eqb r.place q) 1 0) log (record { place = p; cell = c; number = v }),
          sum_swap (holds_place q) free_store m.stores i (live p c (num v)) free_store (omega (arith, S)) e,
        )

    -- never twice
    pub at_most_once_lem : (q : ℕ) → records_of q log ≤ records_due (instruction_at K L q)
    at_most_once_lem q = go (ltb q m.next) refl
      where
        go : (b : Bool) → ltb q m.next ≡ b → records_of q log ≤ records_due (instruction_at K L q)
        go true e = omega (arith, rw e at (B q))
        go false e = omega (arith, rw e at (B q))

    -- and once drained, each once
    pub each_once_lem : m.next ≡ length L.words → Still m → (q : ℕ) → records_of q log ≡ records_due (instruction_at K L q)
    each_once_lem l z q =
        let h : sum (holds_place q) m.stores ≡ 0 = sum_zero (holds_place q) free_store m.stores (λ i. ap (holds_place q) (z.no_store i)) in
        go (ltb q m.next) refl h
      where
        past_end : m.next ≤ q → records_due (instruction_at K L q) ≡ 0
        past_end k = ap records_due (ap decode (get_or-eq_default L.words 0 (omega arith)) ∙ no_instruction_lem)

        go : (b : Bool) → ltb q m.next ≡ b → sum (holds_place q) m.stores ≡ 0 → records_of q log ≡ records_due (instruction_at K L q)
        go true e h = omega (arith, rw e at (B q))
        go false e h = omega (arith, rw e at (B q), past_end (ltb-false q m.next e))
