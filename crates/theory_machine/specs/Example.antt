-- Session P2 of document 01, over any kind of number: the order theorem's hypotheses can be met, and what it then says.
use Rattle.std.specs.Prelude.{◌≡◌, true, List, [], ◌∷◌, ℕ, replicate}
use Rattle.numbers.specs.declared.Operation.TheVariants.{Add}
use Rattle.words.specs.Instructions.{cell_limit}
use Rattle.theory_machine.specs.Machine.{Kind, Lent}
use Rattle.theory_machine.specs.OneAtATime.{Run}
use Rattle.theory_machine.specs.Asked.{State, asked, taken_of, begin}
use Rattle.theory_machine.specs.Statement.{is_drained, Outcome}

-- LD F0,0; AD F0,1; STD F0,0 with two operand cells: "words 65,536, 196,609, 720,896"
abbrev pub example_list : (K : Kind) (a b : K.Num) → Lent K.Num
example_list K a b = record { words = 65536 ∷ 196609 ∷ 720896 ∷ []; operands = a ∷ b ∷ []; results = cell_limit }

-- "All registers and 256 result cells start at +0."
abbrev pub example_start : (K : Kind) → Run K.Num
example_start K = record { registers = replicate 4 K.nought; cells = replicate cell_limit K.nought }

-- "00 00 00 12 11 32 31 2A 3A 41"
abbrev pub example_codes : List ℕ
example_codes = 0x00 ∷ 0x00 ∷ 0x00 ∷ 0x12 ∷ 0x11 ∷ 0x32 ∷ 0x31 ∷ 0x2A ∷ 0x3A ∷ 0x41 ∷ []

abbrev pub example_begin : (K : Kind) (a b : K.Num) → State K.Num
example_begin K a b = begin K (example_list K a b) (example_start K)

-- whatever codes are asked for the theorem holds of this list; and with the codes above it drains, after ten steps, with one record: place 2,
-- cell 0, the sum of the two operands
pub record ExampleTheorem (K : Kind) (a b : K.Num) : Type 0 where
  pub outcome : (codes : List ℕ)
      → Outcome K (example_list K a b) (example_start K) (asked K (example_list K a b) (example_begin K a b) codes)
      (taken_of K (example_list K a b) (example_begin K a b) codes)
  pub drains : is_drained K (example_list K a b) (asked K (example_list K a b) (example_begin K a b) example_codes).machine ≡ true
  pub steps : taken_of K (example_list K a b) (example_begin K a b) example_codes ≡ 10
  pub log : (asked K (example_list K a b) (example_begin K a b) example_codes).log ≡ record { place = 2; cell = 0; number = K.apply Add a b } ∷ []
