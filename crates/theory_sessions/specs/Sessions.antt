-- Document 01, "Sessions on both sides of each rule": P1 to P11 (P11 and P12 also in Files).
use Rattle.std.specs.Prelude.{false, List, [], ◌∷◌, ◌++◌, ℕ, replicate, Float}
use Rattle.std.proofs.Math.Option.{none, some}
use Rattle.theory_machine.specs.Machine.{num, tag}
use Rattle.theory_sessions.specs.Numbers.{n0, n1, n1·5, n2, n2·25, n3, n3·75, n5, n6·75}
use Rattle.theory_sessions.specs.Session.{ended, Row, session}

-- all registers +0; eight result cells +0
abbrev pub zeros : List Float
zeros = replicate 4 n0

abbrev pub no_cells : List Float
no_cells = replicate 8 n0

-- 1.5 and 2.25
abbrev pub two : List Float
two = n1·5 ∷ n2·25 ∷ []

-- "P1 Empty list: drained, 0 left, no step permitted." Every known code is asked for.
abbrev known_codes : List ℕ
known_codes =
    0
    ∷ (17 ∷ 18 ∷ 19 ∷ 20 ∷ 21 ∷ 22 ∷ [])
    ++ (40 ∷ 41 ∷ 42 ∷ 43 ∷ 44 ∷ [])
    ++ (49 ∷ 50 ∷ 51 ∷ 52 ∷ 53 ∷ 54 ∷ [])
    ++ (56 ∷ 57 ∷ 58 ∷ 59 ∷ 60 ∷ [])
    ++ (65 ∷ 66 ∷ 67 ∷ [])

abbrev p1 : Row
p1 = session (record { words = []; operands = []; starts = zeros; cells = no_cells; codes = known_codes }) (ended (replicate 26 7) zeros no_cells [])

-- "P2 The run above; words 65,536, 196,609, 720,896": 256 result cells, schedule 00 00 00 12 11 32 31 2A 3A 41
abbrev p2 : Row
p2 =
    session (record {
      words = 65536 ∷ 196609 ∷ 720896 ∷ [];
      operands = two;
      starts = zeros;
      cells = replicate 256 n0;
      codes = 0x00 ∷ 0x00 ∷ 0x00 ∷ 0x12 ∷ 0x11 ∷ 0x32 ∷ 0x31 ∷ 0x2A ∷ 0x3A ∷ 0x41 ∷ [];
    })
    (ended (replicate 10 0) (n3·75 ∷ n0 ∷ n0 ∷ n0 ∷ []) (n3·75 ∷ replicate 255 n0) (record { place = 2; cell = 0; number = n3·75 } ∷ []))

-- "P3 LD F0,0; LD F0,1; codes 0 0 17 18 50 49: F0 is cell 1."
abbrev p3 : Row
p3 =
    session (record { words = 65536 ∷ 65537 ∷ []; operands = two; starts = zeros; cells = no_cells; codes = 0 ∷ 0 ∷ 17 ∷ 18 ∷ 50 ∷ 49 ∷ [] })
    (ended (replicate 6 0) (n2·25 ∷ n0 ∷ n0 ∷ n0 ∷ []) no_cells [])

-- "P4 LD F0,0; LDR F2,F0; codes 0 0 17 49: both are cell 0."
abbrev p4 : Row
p4 =
    session (record { words = 65536 ∷ 139264 ∷ []; operands = two; starts = zeros; cells = no_cells; codes = 0 ∷ 0 ∷ 17 ∷ 49 ∷ [] })
    (ended (replicate 4 0) (n1·5 ∷ n1·5 ∷ n0 ∷ n0 ∷ []) no_cells [])

-- "P5 ADR F0,F0 from 1.5; codes 0 42 58: 3.0."
abbrev p5 : Row
p5 =
    session (record { words = 262144 ∷ []; operands = []; starts = n1·5 ∷ n0 ∷ n0 ∷ n0 ∷ []; cells = no_cells; codes = 0 ∷ 42 ∷ 58 ∷ [] })
    (ended (replicate 3 0) (n3 ∷ n0 ∷ n0 ∷ n0 ∷ []) no_cells [])

-- "P6 STD F0,5 twice: second issue 7; after 65 it is taken."
abbrev p6 : Row
p6 =
    session (record { words = 720901 ∷ 720901 ∷ []; operands = []; starts = n2 ∷ n0 ∷ n0 ∷ n0 ∷ []; cells = no_cells; codes = 0 ∷ 0 ∷ 65 ∷ 0 ∷ [] })
    (record {
      fresh = 0;
      answers = 0 ∷ 7 ∷ 0 ∷ 0 ∷ [];
      registers = num n2 ∷ num n0 ∷ num n0 ∷ num n0 ∷ [];
      cells = n0 ∷ n0 ∷ n0 ∷ n0 ∷ n0 ∷ n2 ∷ n0 ∷ n0 ∷ [];
      log = record { place = 0; cell = 5; number = n2 } ∷ [];
      left = 1;
      drained = false;
      lowest = some 65;
      alone = record { registers = n2 ∷ n0 ∷ n0 ∷ n0 ∷ []; cells = n0 ∷ n0 ∷ n0 ∷ n0 ∷ n0 ∷ n2 ∷ n0 ∷ n0 ∷ [] };
    })

-- "P7 Seven LD: seventh issue 7; after 17 49 it takes buffer 1."
abbrev p7 : Row
p7 =
    session (record {
      words = replicate 7 65536;
      operands = two;
      starts = zeros;
      cells = no_cells;
      codes = 0 ∷ 0 ∷ 0 ∷ 0 ∷ 0 ∷ 0 ∷ 0 ∷ 17 ∷ 49 ∷ 0 ∷ [];
    })
    (record {
      fresh = 0;
      answers = 0 ∷ 0 ∷ 0 ∷ 0 ∷ 0 ∷ 0 ∷ 7 ∷ 0 ∷ 0 ∷ 0 ∷ [];
      registers = tag 1 ∷ num n0 ∷ num n0 ∷ num n0 ∷ [];
      cells = no_cells;
      log = [];
      left = 12;
      drained = false;
      lowest = some 17;
      alone = record { registers = n1·5 ∷ n0 ∷ n0 ∷ n0 ∷ []; cells = no_cells };
    })

-- "P8 Three MDR: third issue 7."
abbrev p8 : Row
p8 =
    session (record { words = replicate 3 524290; operands = []; starts = n2 ∷ n1·5 ∷ n0 ∷ n0 ∷ []; cells = no_cells; codes = 0 ∷ 0 ∷ 0 ∷ 40 ∷ 56 ∷ 0 ∷ [] })
    (record {
      fresh = 0;
      answers = 0 ∷ 0 ∷ 7 ∷ 0 ∷ 0 ∷ 0 ∷ [];
      registers = tag 8 ∷ num n1·5 ∷ num n0 ∷ num n0 ∷ [];
      cells = no_cells;
      log = [];
      left = 4;
      drained = false;
      lowest = some 41;
      alone = record { registers = n6·75 ∷ n1·5 ∷ n0 ∷ n0 ∷ []; cells = no_cells };
    })

-- "P9 ADR F0,F2; STD F0,0; ADR F0,F2 from 1 and 2; codes 0 0 42 58 0 42 58 65: cell 0 is 3, F0 is 5."
abbrev p9 : Row
p9 =
    session (record {
      words = 262146 ∷ 720896 ∷ 262146 ∷ [];
      operands = [];
      starts = n1 ∷ n2 ∷ n0 ∷ n0 ∷ [];
      cells = no_cells;
      codes = 0 ∷ 0 ∷ 42 ∷ 58 ∷ 0 ∷ 42 ∷ 58 ∷ 65 ∷ [];
    })
    (ended (replicate 8 0) (n5 ∷ n2 ∷ n0 ∷ n0 ∷ []) (n3 ∷ replicate 7 n0) (record { place = 1; cell = 0; number = n3 } ∷ []))

-- "P10 Codes 23 and 55: 5."
abbrev p10 : Row
p10 =
    session (record { words = 65536 ∷ []; operands = two; starts = zeros; cells = no_cells; codes = 23 ∷ 55 ∷ [] })
    (record {
      fresh = 0;
      answers = 5 ∷ 5 ∷ [];
      registers = num n0 ∷ num n0 ∷ num n0 ∷ num n0 ∷ [];
      cells = no_cells;
      log = [];
      left = 3;
      drained = false;
      lowest = some 0;
      alone = record { registers = n1·5 ∷ n0 ∷ n0 ∷ n0 ∷ []; cells = no_cells };
    })

-- "P11 Words 0 and 786,432: 2; 69,632: 3; 65,792: 4.": at the issue, with 300 operand cells. A fresh machine is refused, with registers +0;
-- steps left 0, no lowest step, the start numbers back
abbrev bad : (word refusal : ℕ) → Row
bad word n =
    session (record { words = word ∷ []; operands = replicate 300 n1·5; starts = n1 ∷ n2 ∷ n3 ∷ n5 ∷ []; cells = no_cells; codes = 0 ∷ [] })
    (record {
      fresh = n;
      answers = n ∷ [];
      registers = num n0 ∷ num n0 ∷ num n0 ∷ num n0 ∷ [];
      cells = no_cells;
      log = [];
      left = 0;
      drained = false;
      lowest = none;
      alone = record { registers = n1 ∷ n2 ∷ n3 ∷ n5 ∷ []; cells = no_cells };
    })

abbrev pub sessions : List Row
sessions = p1 ∷ p2 ∷ p3 ∷ p4 ∷ p5 ∷ p6 ∷ p7 ∷ p8 ∷ p9 ∷ p10 ∷ bad 0 2 ∷ bad 786432 2 ∷ bad 69632 3 ∷ bad 65792 4 ∷ []
