-- Document 01, "Issue, always using the lowest-numbered free one".
use Rattle.std.specs.Prelude.{Bool, cond, not, ◌&&◌, ℕ, suc, leb, eqb, length, get_or}
use Rattle.std.proofs.Math.Option.{Option, none, some}
use Rattle.numbers.specs.declared.Operation.{Operation}
use Rattle.words.specs.Check.{word_refusal}
use Rattle.theory_machine.specs.Rows.{all_below, first}
use Rattle.theory_machine.specs.Tags.{buffer_count, station_count, store_count, buffer_tag, station_tag, suits}
use Rattle.theory_machine.specs.Instruction.{Instruction, no_instruction, load, store, copy, cell_arithmetic, register_arithmetic, decode}
use Rattle.theory_machine.specs.Machine.{Kind, Lent, areas_of, tag, waiting, holding, live, Machine, Record, next_is, put_register, put_buffer, put_station, put_store, buffer_at, station_at, store_at, register_at, is_free_buffer, is_free_station, is_free_store, store_cell}
use Rattle.theory_machine.specs.GoodOrder.{has_cell}

-- AN ANSWER: the refusal number (0: accepted), the machine, and what was released, if anything
pub record Answer (A : Type 0) : Type 0 where
  pub refusal : ℕ
  pub machine : Machine A
  pub released : Option (Record A)

module _ {A : Type 0} where
  -- "A refused call returns the machine as given and writes nothing"
  abbrev pub refused : Machine A → ℕ → Answer A
  refused m n = record { refusal = n; machine = m; released = none }

  abbrev pub taken : Machine A → Answer A
  taken m = record { refusal = 0; machine = m; released = none }

  abbrev pub is_taken : Answer A → Bool
  is_taken a = eqb a.refusal 0

  -- THE LOWEST-NUMBERED FREE ONE, by index

  abbrev pub lowest_buffer : Machine A → Option ℕ
  lowest_buffer m = first (λ i. is_free_buffer (buffer_at m i)) 0 buffer_count

  -- "a free station of its kind"
  abbrev pub lowest_station : Machine A → Operation → Option ℕ
  lowest_station m o = first (λ i. suits i o && is_free_station (station_at m i)) 0 station_count

  abbrev pub lowest_store : Machine A → Option ℕ
  lowest_store m = first (λ i. is_free_store (store_at m i)) 0 store_count

  -- some live store buffer has cell c
  abbrev pub cell_live : Machine A → (c : ℕ) → Bool
  cell_live m c = not (all_below store_count (λ i. not (has_cell c (store_cell (store_at m i)))))

  -- "next place grows by one"
  abbrev pub onward : Machine A → Machine A
  onward m = next_is m (suc m.next)

  -- what is needed is not there: "known step not permitted now"
  abbrev pub with_slot : Machine A → Option ℕ → ((i : ℕ) → Machine A) → Answer A
  with_slot m none k = refused m 7
  with_slot m (some i) k = taken (k i)

-- both slots, or none
abbrev pub with_both : {A : Type 0} → Machine A → (a b : Option ℕ) → ((i j : ℕ) → Machine A) → Answer A
with_both m none b k = refused m 7
with_both m (some i) b k = with_slot m b (k i)

module _ (K : Kind) where
  -- WHAT AN ISSUE MAKES OF THE MACHINE, at the slots found for it: buffer b, station s, store buffer t

  -- "a free buffer, which then waits. R1 takes its tag."
  abbrev pub loaded : Machine K.Num → (r c b : ℕ) → Machine K.Num
  loaded m r c b = onward (put_register (put_buffer m b (waiting m.next c)) r (tag (buffer_tag b)))

  -- "R1 becomes a copy of the other register, number or tag"
  abbrev pub copied : Machine K.Num → (r x : ℕ) → Machine K.Num
  copied m r x = onward (put_register m r (register_at K m x))

  -- "The sink operand is R1 as it stands, the source is the buffer's tag; then R1 takes the station's tag."
  abbrev pub with_cell : Machine K.Num → Operation → (r c b s : ℕ) → Machine K.Num
  with_cell m o r c b s =
      onward
      (put_register
      (put_station (put_buffer m b (waiting m.next c)) s (holding m.next o (register_at K m r) (tag (buffer_tag b))))
      r (tag (station_tag s)))

  -- "Both operands are read before R1 takes the tag."
  abbrev pub with_register : Machine K.Num → Operation → (r x s : ℕ) → Machine K.Num
  with_register m o r x s =
      onward (put_register (put_station m s (holding m.next o (register_at K m r) (register_at K m x))) r (tag (station_tag s)))

  -- "It takes R1 as it stands."
  abbrev pub storing : Machine K.Num → (r c t : ℕ) → Machine K.Num
  storing m r c t = onward (put_store m t (live m.next c (register_at K m r)))

  -- ISSUE OF AN INSTRUCTION: what each needs
  abbrev pub issue_of : Machine K.Num → Instruction → Answer K.Num
  issue_of m no_instruction = refused m 2
  issue_of m (load r c) = with_slot m (lowest_buffer m) (λ b. loaded m r c b)
  issue_of m (copy r x) = taken (copied m r x)
  issue_of m (cell_arithmetic o r c) = with_both m (lowest_buffer m) (lowest_station m o) (λ b s. with_cell m o r c b s)
  issue_of m (register_arithmetic o r x) = with_slot m (lowest_station m o) (λ s. with_register m o r x s)
  issue_of m (store r c) = cond (cell_live m c) (refused m 7) (with_slot m (lowest_store m) (λ t. storing m r c t))

  module _ (L : Lent K.Num) where
    abbrev pub word_at : (place : ℕ) → ℕ
    word_at q = get_or L.words q 0

    abbrev pub instruction_at : (place : ℕ) → Instruction
    instruction_at q = decode (word_at q)

    -- 2, 3, 4 for a word, against its areas
    abbrev pub refusal_of : (word : ℕ) → ℕ
    refusal_of word = word_refusal (areas_of L) word

    -- "for an issue at the list's end 7, else 2, 3, 4 for that word, then 7"
    abbrev pub issue_next : Machine K.Num → Answer K.Num
    issue_next m =
        cond (leb (length L.words) m.next) (refused m 7)
        (cond (not (eqb (refusal_of (word_at m.next)) 0)) (refused m (refusal_of (word_at m.next)))
        (issue_of m (instruction_at m.next)))
