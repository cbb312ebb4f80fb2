-- Machine and result cells are those of the one-at-a-time run, but for the cells of the stores that are still live: kept by every move.
use mathlib.Core.Path.{◌≡◌, refl, sym, ap, ◌∙◌}
use mathlib.Core.Option.{some, none-ne-some}
use mathlib.Core.Logic.{⊎_elim, ◌≢◌}
use mathlib.Core.List.{List, map}
use Prim.Native.Nat.{ℕ, suc, ◌<◌}
use native.Mathlib.Omega.{arith}
use lib.ListN.{length, get_or, set, get_or-map, length-set}
use lib.Seq.{get_or-set_same, get_or-set_other}
use Rattle.theory_machine.specs.Tags.{register_count, buffer_tag, station_tag}
use Rattle.theory_machine.specs.Instruction.{Instruction, no_instruction, load, store, copy, cell_arithmetic, register_arithmetic}
use Rattle.theory_machine.specs.Machine.{Kind, Lent, areas_of, num, StoreBuffer, free_store, live, Machine, next_is, stores_are, put_store, Shape, store_at, register_at, store_cell}
use Rattle.theory_machine.specs.GoodOrder.{giver_of}
use Rattle.theory_machine.specs.Issue.{instruction_at}
use Rattle.theory_machine.specs.Steps.{give_store}
use Rattle.theory_machine.specs.OneAtATime.{Run, value}
use Rattle.theory_machine.specs.Asked.{written}
use Rattle.words.proofs.Known.{eqb_cases}
use Rattle.theory_machine.proofs.Rows.{set_all}
use Rattle.theory_machine.proofs.Words.{WellFormed, cell_in_area}
use Rattle.theory_machine.proofs.Holds.{StoreOk, Inv, arrival_keeps, completion_keeps, buffer_grant_keeps, station_grant_keeps, release_keeps}
use Rattle.theory_machine.proofs.Issue.{no_store_lem, Room, issued, issue_keeps}
use Rattle.theory_machine.proofs.Moves.{Move, issuing, arriving, completing, granting_buffer, granting_station, releasing, moved, effect}
use Rattle.theory_machine.proofs.GoodOrder.{orderly, Good}
use Rattle.theory_machine.proofs.Order.{cell-given}
use Rattle.theory_machine.proofs.Right.{at, sink_number, right, laws, widens, issues, cells_kept}

module _ (K : Kind) (L : Lent K.Num) (start : Run K.Num) where
  -- RESULT CELLS

  abbrev pub cell_at : (n c : ℕ) → K.Num
  cell_at n c = get_or (at K L start n).cells c K.nought

  -- a live store's cell already has, in the run, the number that it will write
  abbrev pub Pending : (n : ℕ) → StoreBuffer K.Num → Type 0
  Pending n free_store = Unit
  Pending n (live p c x) = cell_at n c ≡ sink_number K L start p

  abbrev pub NoStore : List (StoreBuffer K.Num) → (c : ℕ) → Type 0
  NoStore ts c = (i : ℕ) → store_cell (get_or ts i free_store) ≢ some c

  pub record Right (m : Machine K.Num) (cells : List K.Num) : Type 0 where
    pub inv : Inv K (right K L start m.next) m
    pub pending : (i : ℕ) → Pending m.next (store_at m i)
    pub settled : (c : ℕ) → NoStore m.stores c → get_or cells c K.nought ≡ cell_at m.next c
    pub width : length cells ≡ L.results

  module _ (four : length start.registers ≡ register_count) (lent : length start.cells ≡ L.results)
      (m : Machine K.Num) (S : Shape m) (g : Good K L m) (cells : List K.Num) (R : Right m cells) where
    abbrev q : ℕ
    q = m.next

    cell_same : (at K L start (suc q)).cells ≡ (at K L start q).cells → (c : ℕ) → cell_at (suc q) c ≡ cell_at q c
    cell_same k c = ap (λ (l : List K.Num). get_or l c K.nought) k

    -- an issue that stores nothing leaves the run's cells
    quiet-issue : (n : Machine K.Num) → (at K L start (suc q)).cells ≡ (at K L start q).cells
        → let after = stores_are (next_is n (suc q)) m.stores in Inv K (right K L start (suc q)) after → Right after cells
    quiet-issue n k I = record {
      inv = I;
      pending = λ i. one (store_at m i) (R.pending i);
      settled = λ c h. R.settled c h ∙ sym (cell_same k c);
      width = R.width;
    }
      where
        one : (s : StoreBuffer K.Num) → Pending q s → Pending (suc q) s
        one free_store h = h
        one (live p c x) h = cell_same k c ∙ h

    -- the run stores v in cell c, and store buffer t takes the store
    store-issue : (r c b s t : ℕ) → instruction_at K L q ≡ store r c → c < L.results → Room m (store r c) b s t
        → Inv K (right K L start (suc q)) (issued K m (store r c) b s t) → Right (issued K m (store r c) b s t) cells
    store-issue r c b s t e h w I = record {
      inv = I;
      pending = set_all (λ j s. Pending (suc q) s) free_store m.stores t new
          (λ j. old (store_at m j) (no_store_lem m S c w.1.2 j) (R.pending j)) (cell-c ∙ rw e);
      settled = λ d k. R.settled d (was d k)
          ∙ cell_other d (λ (z : d ≡ c). k t (ap store_cell (get_or-set_same m.stores t new free_store (omega (arith, w.1.0, S))) ∙ rw z));
      width = R.width;
    }
      where
        v : K.Num
        v = value K (at K L start q) r

        new : StoreBuffer K.Num
        new = live q c (register_at K m r)

        cell-c : cell_at (suc q) c ≡ v
        cell-c = rw e (get_or-set_same (at K L start q).cells c v K.nought (omega (arith, cells_kept K L start q)))

        cell_other : (d : ℕ) → d ≢ c → cell_at q d ≡ cell_at (suc q) d
        cell_other d z = rw e (sym (get_or-set_other (at K L start q).cells c d v K.nought z))

        old : (s : StoreBuffer K.Num) → store_cell s ≢ some c → Pending q s → Pending (suc q) s
        old free_store z k = k
        old (live p d x) z k = sym (cell_other d (λ (y : d ≡ c). z (rw y))) ∙ k

        was : (d : ℕ) → NoStore (set m.stores t new) d → NoStore m.stores d
        was d k j =
            ⊎_elim (λ (y : j ≡ t). λ z. none-ne-some d (sym (ap store_cell w.1.1) ∙ (rw y at z)))
            (λ (y : j ≢ t). rw (get_or-set_other m.stores t j new free_store y) at (k j)) (eqb_cases j t)

    issue-right : (i : Instruction) (b s t : ℕ) → instruction_at K L q ≡ i → Room m i b s t → WellFormed (areas_of L) i
        → Inv K (right K L start (suc q)) (issued K m i b s t) → Right (issued K m i b s t) cells
    issue-right no_instruction b s t e r w I = absurd r
    issue-right (load a c) b s t e r w I = quiet-issue (issued K m (load a c) b s t) (rw e) I
    issue-right (copy a x) b s t e r w I = quiet-issue (issued K m (copy a x) b s t) (rw e) I
    issue-right (cell_arithmetic o a c) b s t e r w I = quiet-issue (issued K m (cell_arithmetic o a c) b s t) (rw e) I
    issue-right (register_arithmetic o a x) b s t e r w I = quiet-issue (issued K m (register_arithmetic o a x) b s t) (rw e) I
    issue-right (store a c) b s t e r w I = store-issue a c b s t e (cell_in_area L.results c w.1) r I

    -- a grant leaves what is pending and what is settled
    pending-given : (t : ℕ) (v : K.Num) (i : ℕ) → Pending q (get_or (map (give_store t v) m.stores) i free_store)
    pending-given t v i = rw (get_or-map (give_store t v) m.stores i free_store) (one (store_at m i) (R.pending i))
      where
        one : (s : StoreBuffer K.Num) → Pending q s → Pending q (give_store t v s)
        one free_store h = h
        one (live p c x) h = h

    settled-given : (t : ℕ) (v : K.Num) (c : ℕ) → NoStore (map (give_store t v) m.stores) c → get_or cells c K.nought ≡ cell_at q c
    settled-given t v c h = R.settled c (λ i z. h i (cell-given K L t v m.stores i ∙ z))

    release-right : (i p c : ℕ) (v : K.Num) → store_at m i ≡ live p c (num v) → Right (put_store m i free_store) (set cells c v)
    release-right i p c v e = record {
      inv = release_keeps K L (right K L start q) (laws K L start q) m R.inv i;
      pending = set_all (λ j s. Pending q s) free_store m.stores i free_store R.pending tt;
      settled = λ d k. ⊎_elim
          (λ (z : d ≡ c). rw (z, get_or-set_same cells c v K.nought inside) (was.1 ∙ sym (rw e at (R.pending i))))
          (λ (z : d ≢ c). rw (get_or-set_other cells c d v K.nought z) (R.settled d (old d z k)))
          (eqb_cases d c);
      width = simp length-set R.width;
    }
      where
        was : StoreOk (right K L start q) (giver_of m) (live p c (num v))
        was = rw e at (R.inv.stores i)

        ok : StoreOk (orderly K L q) (giver_of m) (live p c (num v))
        ok = rw e at (g.inv.stores i)

        inside : c < length cells
        inside = omega (arith, cell_in_area L.results c ok.0.1, R.width)

        old : (d : ℕ) → d ≢ c → NoStore (set m.stores i free_store) d → NoStore m.stores d
        old d z k j =
            ⊎_elim (λ (y : j ≡ i). λ x. z (let u : some c ≡ some d = sym (ap store_cell e) ∙ (rw y at x) in cc))
            (λ (y : j ≢ i). rw (get_or-set_other m.stores i j free_store free_store y) at (k j))
            (eqb_cases j i)

    -- EVERY MOVE keeps it
    pub right_moved : (v : Move K L m) → Right (moved K L m v) (written cells (effect K L m v))
    right_moved (issuing b s t h r w) =
        let i : Instruction = instruction_at K L q in
        issue-right i b s t refl r w (issue_keeps K (right K L start q) (right K L start (suc q)) (widens K L start q) m S R.inv i b s t r (issues K L start four q i refl w))
    right_moved (arriving i p c h e) =
        record { inv = arrival_keeps K L (right K L start q) (laws K L start q) m R.inv i p c e; pending = R.pending; settled = R.settled; width = R.width }
    right_moved (completing i p o x y h e) =
        record { inv = completion_keeps K L (right K L start q) (laws K L start q) m R.inv i p o x y e; pending = R.pending; settled = R.settled; width = R.width }
    right_moved (granting_buffer i p v h e) = record {
      inv = buffer_grant_keeps K L (right K L start q) (laws K L start q) m R.inv i p v h e;
      pending = pending-given (buffer_tag i) v;
      settled = settled-given (buffer_tag i) v;
      width = R.width;
    }
    right_moved (granting_station i p v h e) = record {
      inv = station_grant_keeps K L (right K L start q) (laws K L start q) m R.inv i p v h e;
      pending = pending-given (station_tag i) v;
      settled = settled-given (station_tag i) v;
      width = R.width;
    }
    right_moved (releasing i p c v h e) = release-right i p c v e
