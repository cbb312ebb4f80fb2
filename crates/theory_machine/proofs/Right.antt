-- Every number in the machine, and every number that a tag stands for, is the one of the one-at-a-time run: the reading.
use mathlib.Core.Path.{◌≡◌, refl, sym, ◌∙◌}
use mathlib.Core.Logic.{◌≢◌}
use Prim.Native.Nat.{ℕ, zero, suc, ◌<◌}
use native.Mathlib.Omega.{arith}
use lib.ListN.{length, length-set}
use lib.Seq.{get_or-set_same, get_or-set_other}
use Rattle.theory_machine.specs.Tags.{register_count}
use Rattle.theory_machine.specs.Instruction.{Instruction, no_instruction, load, store, copy, cell_arithmetic, register_arithmetic, r1_of}
use Rattle.theory_machine.specs.Machine.{Kind, Lent, areas_of}
use Rattle.theory_machine.specs.GoodOrder.{Giver, nobody, from_buffer, from_station}
use Rattle.theory_machine.specs.Issue.{instruction_at}
use Rattle.theory_machine.specs.Steps.{operand_cell}
use Rattle.theory_machine.specs.OneAtATime.{Run, value, register_takes, execute, run_to}
use Rattle.theory_machine.proofs.Words.{WellFormed}
use Rattle.theory_machine.proofs.Holds.{Holder, register, sink, source, stored, Reading, Laws}
use Rattle.theory_machine.proofs.Issue.{Enough, Widens, Issues}

-- the operand cell that an instruction names
abbrev cell_named : Instruction → ℕ
cell_named no_instruction = 0
cell_named (load r c) = c
cell_named (store r c) = c
cell_named (copy r x) = 0
cell_named (cell_arithmetic o r c) = c
cell_named (register_arithmetic o r x) = 0

module _ (K : Kind) (L : Lent K.Num) (start : Run K.Num) where
  -- the run before instruction n
  abbrev pub at : ℕ → Run K.Num
  at n = run_to K L start n

  -- R1 before instruction q, and its second operand there
  abbrev pub sink_number : ℕ → K.Num
  sink_number q = value K (at q) (r1_of (instruction_at K L q))

  abbrev second : Instruction → Run K.Num → K.Num
  second no_instruction s = K.nought
  second (load r c) s = operand_cell K L c
  second (copy r x) s = value K s x
  second (store r c) s = K.nought
  second (cell_arithmetic o r c) s = operand_cell K L c
  second (register_arithmetic o r x) s = value K s x

  -- what the operand of each holder stands for, with n the next place
  abbrev pub wanted : (n : ℕ) → Holder → K.Num
  wanted n (register i) = value K (at n) i
  wanted n (sink q) = sink_number q
  wanted n (source q) = second (instruction_at K L q) (at q)
  wanted n (stored q) = sink_number q

  -- what a giver is to give: the operand cell of its instruction, or R1 after it
  abbrev promise : Giver → K.Num
  promise nobody = K.nought
  promise (from_buffer q) = operand_cell K L (cell_named (instruction_at K L q))
  promise (from_station q) = value K (at (suc q)) (r1_of (instruction_at K L q))

  abbrev pub right : (n : ℕ) → Reading K.Num
  right n = record {
    on_giver = λ h g. promise g ≡ wanted n h;
    on_number = λ h u. u ≡ wanted n h;
    waiting_ok = λ p c. operand_cell K L c ≡ promise (from_buffer p);
    full_ok = λ p v. v ≡ promise (from_buffer p);
    holding_ok = λ i p o. promise (from_station p) ≡ K.apply o (wanted n (sink p)) (wanted n (source p));
    done_ok = λ p v. v ≡ promise (from_station p);
    live_ok = λ p c. instruction_at K L p ≡ store (r1_of (instruction_at K L p)) c;
  }

  pub laws : (n : ℕ) → Laws K L (right n)
  laws n = record {
    arrives = λ p c h. h;
    completes = λ i p o x y h a b. cc;
    buffer_gives = λ p v h k g. h ∙ g;
    station_gives = λ p v h k g. h ∙ g;
  }

  same : (n : ℕ) (h k : Holder) → wanted n h ≡ wanted (suc n) k → Enough K (right n) (right (suc n)) h k
  same n h k e = record { givers = λ g a. a ∙ e; numbers = λ u a. a ∙ e }

  pub widens : (n : ℕ) → Widens K (right n) (right (suc n))
  widens n = record {
    on_waiting = λ p c h. h;
    on_full = λ p v h. h;
    on_holding = λ i p o h. h;
    on_done = λ p v h. h;
    on_live = λ p c h. h;
    on_sink = λ p. same n (sink p) (sink p) refl;
    on_source = λ p. same n (source p) (source p) refl;
    on_stored = λ p. same n (stored p) (stored p) refl;
  }

  -- THE RUN KEEPS ITS LENGTHS

  registers-length : (i : Instruction) (s : Run K.Num) → length (execute K L i s).registers ≡ length s.registers
  registers-length no_instruction s = refl
  registers-length (load r c) s = simp length-set
  registers-length (copy r x) s = simp length-set
  registers-length (store r c) s = refl
  registers-length (cell_arithmetic o r c) s = simp length-set
  registers-length (register_arithmetic o r x) s = simp length-set

  cells-length : (i : Instruction) (s : Run K.Num) → length (execute K L i s).cells ≡ length s.cells
  cells-length no_instruction s = refl
  cells-length (load r c) s = refl
  cells-length (copy r x) s = refl
  cells-length (store r c) s = simp length-set
  cells-length (cell_arithmetic o r c) s = refl
  cells-length (register_arithmetic o r x) s = refl

  pub registers_kept : (n : ℕ) → length (at n).registers ≡ length start.registers
  registers_kept zero = refl
  registers_kept (suc n) = registers-length (instruction_at K L n) (at n) ∙ registers_kept n

  pub cells_kept : (n : ℕ) → length (at n).cells ≡ length start.cells
  cells_kept zero = refl
  cells_kept (suc n) = cells-length (instruction_at K L n) (at n) ∙ cells_kept n

  module _ (four : length start.registers ≡ register_count) where
    -- R1 after it takes v, and any other register
    put_same : (n r : ℕ) (v : K.Num) → r < register_count → value K (register_takes K (at n) r v) r ≡ v
    put_same n r v h = get_or-set_same (at n).registers r v K.nought (omega (arith, registers_kept n))

    put_other : (n r : ℕ) (v : K.Num) (j : ℕ) → j ≢ r → value K (at n) j ≡ value K (register_takes K (at n) r v) j
    put_other n r v j d = sym (get_or-set_other (at n).registers r j v K.nought d)

    pub issues : (q : ℕ) (i : Instruction) → instruction_at K L q ≡ i → WellFormed (areas_of L) i
        → Issues K (right q) (right (suc q)) q i
    issues q no_instruction e w = tt
    issues q (load r c) e w =
        let v : K.Num = operand_cell K L c in
        (rw e, rw e (sym (put_same q r v w.0)), λ j d. same q (register j) (register j) (rw e (put_other q r v j d)))
    issues q (copy r x) e w =
        let v : K.Num = value K (at q) x in
        (same q (register x) (register r) (rw e (sym (put_same q r v w.0))), λ j d. same q (register j) (register j) (rw e (put_other q r v j d)))
    issues q (cell_arithmetic o r c) e w =
        let v : K.Num = K.apply o (value K (at q) r) (operand_cell K L c) in (
          record {
            holds = λ i h. rw e (put_same q r v w.0);
            sinks = same q (register r) (sink q) (rw e);
            gives = rw e;
            others = λ j d. same q (register j) (register j) (rw e (put_other q r v j d));
          },
          rw e,
          rw e,
        )
    issues q (register_arithmetic o r x) e w =
        let v : K.Num = K.apply o (value K (at q) r) (value K (at q) x) in (
          record {
            holds = λ i h. rw e (put_same q r v w.0);
            sinks = same q (register r) (sink q) (rw e);
            gives = rw e;
            others = λ j d. same q (register j) (register j) (rw e (put_other q r v j d));
          },
          same q (register x) (source q) (rw e),
        )
    issues q (store r c) e w =
        (rw e, same q (register r) (stored q) (rw e), λ j. same q (register j) (register j) (rw e))
