-- What only the contracts of private functions cite: a change that the code has found out, as the theory's answer of a step.
use Rattle.std.specs.Prelude as std
use Rattle.std.specs.Prelude.{◌≡◌, ℕ, ◌+◌, ◌<◌, ◌^◌, Bool, cond, Result, Ok, Err, IfOk, Float, length}
use Rattle.std.proofs.Math.Option.{some}
use Rattle.theory_machine.specs.Tags.{register_count, buffer_count, station_count, store_count, buffer_tag, station_tag}
use Rattle.theory_machine.specs.Machine.{Machine, Lent, free_buffer, full, free_station, done, free_store, put_buffer, put_station, put_store}
use Rattle.theory_machine.specs.Binary64.{binary64}
use Rattle.theory_machine.specs.Issue.{Answer, refused, taken, is_taken, loaded, copied, with_cell, with_register, storing, issue_of, issue_next}
use Rattle.theory_machine.specs.Steps.{granted, perform}
use Rattle.theory_machine.specs.Instruction.{Instruction, no_instruction, load, store, copy, cell_arithmetic, register_arithmetic, index_of}
use Rattle.words.specs.declared.refusal.Refusal.{Refusal}
use Rattle.words.specs.Refusals.{number, answer_number}
use Rattle.words.specs.declared.Form.{Form}
use Rattle.words.specs.declared.Form.TheVariants.{Unknown, LD, LDR, CellArithmetic, RegisterArithmetic, STD}
use Rattle.machine_parts.specs.declared.Machine as code
use Rattle.machine_parts.specs.declared.Record as parts
use Rattle.machine_parts.specs.View.{view, view_record, released_by, lent_with}
use Rattle.machine_take.specs.declared.issue.Issue.{Issue}
use Rattle.machine_take.specs.declared.issue.Issue.TheVariants.{Loads, TakesCell, Copies, TakesRegister, Stores}
use Rattle.machine_take.specs.declared.change.Change.{Change}
use Rattle.machine_take.specs.declared.change.Change.TheVariants.{Issues, Arrives, Completes, BufferGives, StationGives, Releases}
use Rattle.machine_take.specs.declared.change.Lent as declared
use Rattle.machine_take.specs.Taking.{by_release}

abbrev pub view_lent : declared.Lent → Lent Float
view_lent l = lent_with l.words.now l.operands.now l.results

-- WHAT A CHANGE MAKES of a machine

abbrev pub issued : Machine Float → Issue → Machine Float
issued m (Loads r c b) = loaded binary64 m r c b
issued m (TakesCell o r c b s) = with_cell binary64 m o r c b s
issued m (Copies r x) = copied binary64 m r x
issued m (TakesRegister o r x s) = with_register binary64 m o r x s
issued m (Stores r c t) = storing binary64 m r c t

abbrev pub changed : Machine Float → Change → Answer Float
changed m (Issues i) = taken (issued m i)
changed m (Arrives b h) = taken (put_buffer m b (full h.place h.number))
changed m (Completes s h) = taken (put_station m s (done h.place h.number))
changed m (BufferGives b x) = taken (put_buffer (granted m (buffer_tag b) x) b free_buffer)
changed m (StationGives s x) = taken (put_station (granted m (station_tag s) x) s free_station)
changed m (Releases t r) = record { refusal = 0; machine = put_store m t free_store; released = some (view_record r) }

-- each slot is one of its row
abbrev pub InRows : Issue → Type 0
InRows (Loads r c b) = (r < register_count) × (b < buffer_count)
InRows (TakesCell o r c b s) = (r < register_count) × (b < buffer_count) × (s < station_count)
InRows (Copies r x) = (r < register_count) × (x < register_count)
InRows (TakesRegister o r x s) = (r < register_count) × (x < register_count) × (s < station_count)
InRows (Stores r c t) = (r < register_count) × (t < store_count)

-- and "next place grows by one" within what it is stored in
abbrev pub Within : (next : ℕ) → Change → Type 0
Within next (Issues i) = (next + 1 < 2 ^ 64) × InRows i
Within next (Arrives b h) = b < buffer_count
Within next (Completes s h) = s < station_count
Within next (BufferGives b x) = b < buffer_count
Within next (StationGives s x) = s < station_count
Within next (Releases t r) = t < store_count

-- WHAT IS FOUND OUT, of a machine: something that makes an answer, or a refusal
module _ {A : Type 0} (made : A → Answer Float) (m : Machine Float) where
  abbrev pub answer : Result A Refusal → Answer Float
  answer (Ok c) = made c
  answer (Err r) = refused m (number r)

-- it is what f makes of any machine
pub record Makes (r : Result Change Refusal) (f : Machine Float → Answer Float) : Type 0 where
  pub is : (m : Machine Float) → answer (changed m) m r ≡ f m
  pub within : (next : ℕ) → IfOk r (Within next)

-- it is that of one step of machine m with this code
pub record Changes (L : Lent Float) (m : code.Machine) (code : ℕ) (r : Result Change Refusal) : Type 0 where
  pub is : answer (changed (view m)) (view m) r ≡ perform binary64 L (view m) code
  pub within : IfOk r (Within m.next)

-- ONE STEP: a release wants room for its record
abbrev pub answered : Result (std.Option parts.Record) Refusal → Machine Float → Answer Float
answered o m = record { refusal = answer_number o; machine = m; released = released_by o }

abbrev pub in_room : Bool → Machine Float → Answer Float → Answer Float
in_room room m a = cond (is_taken a) (by_release a.released a (λ r. cond room a (refused m 11))) a

-- ISSUE

-- which instruction, by the word's form: r is R1's index
abbrev pub instruction_for : Form → (r operand : ℕ) → Instruction
instruction_for Unknown r x = no_instruction
instruction_for LD r x = load r x
instruction_for LDR r x = copy r (index_of x)
instruction_for (CellArithmetic o) r x = cell_arithmetic o r x
instruction_for (RegisterArithmetic o) r x = register_arithmetic o r (index_of x)
instruction_for STD r x = store r x

-- its registers are among the four
abbrev pub RegistersIn : Instruction → Type 0
RegistersIn no_instruction = Unit
RegistersIn (load r c) = r < register_count
RegistersIn (store r c) = r < register_count
RegistersIn (copy r x) = (r < register_count) × (x < register_count)
RegistersIn (cell_arithmetic o r c) = r < register_count
RegistersIn (register_arithmetic o r x) = (r < register_count) × (x < register_count)

-- the issue of instruction i to machine m, of the word at the next place
pub record IssueOf (m : code.Machine) (i : Instruction) (r : Result Issue Refusal) : Type 0 where
  pub is : answer (λ i. taken (issued (view m) i)) (view m) r ≡ issue_of binary64 (view m) i
  pub within : IfOk r InRows

pub record IssuesNext (m : code.Machine) (L : Lent Float) (r : Result Issue Refusal) : Type 0 where
  pub is : answer (λ i. taken (issued (view m) i)) (view m) r ≡ issue_next binary64 L (view m)
  pub within : IfOk r (λ i. (m.next + 1 < 2 ^ 64) × InRows i)
