-- Document 01, "The list file and the schedule": runs of a schedule, on both sides of each of its refusals.
use Rattle.std.specs.Prelude.{List, [], ◌∷◌, ℕ, replicate, Float}
use Rattle.theory_machine.specs.Machine.{Lent, Operand, num, tag, Machine, next_is, registers_are}
use Rattle.theory_machine.specs.Entries.{empty_machine, fresh}
use Rattle.theory_machine.specs.Binary64.{binary64}
use Rattle.theory_sessions.specs.Numbers.{n0, n1, n1·5, n2, n3·75}
use Rattle.theory_sessions.specs.Scheduled.{Scheduled, RanSeen}
use Rattle.theory_sessions.specs.Session.{Row, ran}
use Rattle.theory_sessions.specs.Sessions.{zeros, no_cells, two}

-- from a fresh machine, with eight result cells +0
abbrev from_fresh : (words : List ℕ) (operands starts : List Float) (room : ℕ) (schedule : List ℕ) → Scheduled
from_fresh words operands starts room schedule =
    let L : Lent Float = record { words = words; operands = operands; results = 8 } in
    record { words = words; operands = operands; machine = (fresh binary64 L starts).machine; cells = no_cells; room = room; schedule = schedule }

-- nothing was released
abbrev unreleased : (steps place refusal : ℕ) (registers : List (Operand Float)) (left : ℕ) → RanSeen
unreleased steps place refusal registers left =
    record { steps = steps; place = place; refusal = refusal; registers = registers; cells = no_cells; records = []; left = left }

-- P2: LD F0,0; AD F0,1; STD F0,0, operands 1.5 and 2.25, registers +0; ten steps in all
abbrev example : List ℕ
example = 65536 ∷ 196609 ∷ 720896 ∷ []

abbrev example_schedule : List ℕ
example_schedule = 0x00 ∷ 0x00 ∷ 0x00 ∷ 0x12 ∷ 0x11 ∷ 0x32 ∷ 0x31 ∷ 0x2A ∷ 0x3A ∷ 0x41 ∷ []

abbrev example_run : (room : ℕ) (schedule : List ℕ) → RanSeen → Row
example_run room schedule e = ran (from_fresh example two zeros room schedule) e

-- its registers with F0 as it is after so many steps
abbrev f0 : Operand Float → List (Operand Float)
f0 o = o ∷ num n0 ∷ num n0 ∷ num n0 ∷ []

-- "P2 The run above", and with more records in the log than are written
abbrev drained_run : RanSeen
drained_run = record {
  steps = 10;
  place = 10;
  refusal = 0;
  registers = f0 (num n3·75);
  cells = n3·75 ∷ replicate 7 n0;
  records = record { place = 2; cell = 0; number = n3·75 } ∷ [];
  left = 0;
}

-- "A permitted release that finds the log full is refused with 11": P6's list with room for one record
abbrev second_release : Row
second_release =
    ran (from_fresh (720901 ∷ 720901 ∷ []) [] (n2 ∷ n0 ∷ n0 ∷ n0 ∷ []) 1 (0x00 ∷ 0x41 ∷ 0x00 ∷ 0x41 ∷ 0x00 ∷ []))
    (record {
      steps = 3;
      place = 3;
      refusal = 11;
      registers = f0 (num n2);
      cells = n0 ∷ n0 ∷ n0 ∷ n0 ∷ n0 ∷ n2 ∷ n0 ∷ n0 ∷ [];
      records = record { place = 0; cell = 5; number = n2 } ∷ [];
      left = 1;
    })

-- "If the list or machine is refused, the answer shows 0 steps, byte place 0 and 0 records."
abbrev refused_list : (word refusal : ℕ) (schedule : List ℕ) → Row
refused_list word n schedule = ran (from_fresh (65536 ∷ word ∷ []) two (n1 ∷ n2 ∷ n0 ∷ n0 ∷ []) 2 schedule) (unreleased 0 0 n (f0 (num n0)) 0)

-- a machine whose next place is past the list's end
abbrev past_the_end : Machine Float
past_the_end = registers_are (next_is (empty_machine []) 4) (f0 (num n1))

abbrev refused_machine : (word refusal : ℕ) (schedule : List ℕ) → Row
refused_machine word n schedule =
    ran (record { words = 65536 ∷ 196609 ∷ word ∷ []; operands = two; machine = past_the_end; cells = no_cells; room = 2; schedule = schedule })
    (unreleased 0 0 n (f0 (num n1)) 0)

abbrev pub runs : List Row
runs =
    example_run 1 example_schedule drained_run
    ∷ example_run 2 example_schedule drained_run
    -- 11: the cell is not written, the steps before stand; a release that is not permitted is 7 with a full log too
    ∷ example_run 0 example_schedule (unreleased 9 9 11 (f0 (num n3·75)) 1)
    ∷ example_run 0 (0x00 ∷ 0x00 ∷ 0x00 ∷ 0x41 ∷ []) (unreleased 3 3 7 (f0 (tag 10)) 7)
    ∷ second_release
    -- an empty schedule, and one that ends in the middle of the work
    ∷ example_run 1 [] (unreleased 0 0 0 (f0 (num n0)) 10)
    ∷ example_run 1 (0x00 ∷ 0x11 ∷ 0x31 ∷ []) (unreleased 3 3 0 (f0 (num n1·5)) 7)
    -- 8: the schedule ends inside a number
    ∷ example_run 1 (0x81 ∷ []) (unreleased 0 0 8 (f0 (num n0)) 10)
    ∷ example_run 1 (0x00 ∷ 0x00 ∷ 0x81 ∷ []) (unreleased 2 2 8 (f0 (tag 10)) 8)
    ∷ example_run 1 (0x00 ∷ 0x80 ∷ 0x80 ∷ []) (unreleased 1 1 8 (f0 (tag 1)) 9)
    -- 9: not in shortest form, though it would be code 0; above 65,535; a third byte with its top bit set; a code after it is not taken
    ∷ example_run 1 (0x00 ∷ 0x80 ∷ 0x00 ∷ []) (unreleased 1 1 9 (f0 (tag 1)) 9)
    ∷ example_run 1 (0x00 ∷ 0xFF ∷ 0xFF ∷ 0x04 ∷ []) (unreleased 1 1 9 (f0 (tag 1)) 9)
    ∷ example_run 1 (0x00 ∷ 0x80 ∷ 0x80 ∷ 0x80 ∷ []) (unreleased 1 1 9 (f0 (tag 1)) 9)
    ∷ example_run 1 (0x80 ∷ 0x00 ∷ 0x00 ∷ []) (unreleased 0 0 9 (f0 (num n0)) 10)
    -- 5: a code that is not known, of one byte, two and three; later codes are not taken
    ∷ example_run 1 (0x00 ∷ 0x17 ∷ 0x00 ∷ []) (unreleased 1 1 5 (f0 (tag 1)) 9)
    ∷ example_run 1 (0x00 ∷ 0x80 ∷ 0x01 ∷ 0x00 ∷ []) (unreleased 1 1 5 (f0 (tag 1)) 9)
    ∷ example_run 1 (0x00 ∷ 0xFF ∷ 0xFF ∷ 0x03 ∷ []) (unreleased 1 1 5 (f0 (tag 1)) 9)
    -- 7: a known code that is not permitted now; later codes are not taken
    ∷ example_run 1 (0x00 ∷ 0x12 ∷ 0x00 ∷ []) (unreleased 1 1 7 (f0 (tag 1)) 9)
    ∷ example_run 1 (0x00 ∷ 0x00 ∷ 0x00 ∷ 0x00 ∷ 0x11 ∷ []) (unreleased 3 3 7 (f0 (tag 10)) 7)
    -- "A run checks the list, then 6, even for an empty schedule"; and before the schedule's own 8
    ∷ refused_list 0 2 (0x00 ∷ [])
    ∷ refused_list 69632 3 []
    ∷ refused_list 65538 4 (0x81 ∷ [])
    ∷ refused_machine 720896 6 (0x00 ∷ [])
    ∷ refused_machine 720896 6 []
    ∷ refused_machine 720904 4 []
    ∷ []
