-- Document 01, "Short cuts the logic has been seen to take": beside P3, P5, P9 and P6, a row for each that a machine with it would fail.
use Rattle.std.specs.Prelude.{false, List, [], ◌∷◌, replicate}
use Rattle.std.proofs.Math.Option.{some}
use Rattle.theory_machine.specs.Machine.{num, tag}
use Rattle.theory_sessions.specs.Numbers.{n0, n1, n1·5, n2, n2·25}
use Rattle.theory_sessions.specs.Session.{ended, Row, session}
use Rattle.theory_sessions.specs.Sessions.{zeros, no_cells, two}

-- "Writing a register on any grant, though its tag is now another's": LD F0,0; LD F0,1; the first gives, and F0 still waits for the second
abbrev any_grant : Row
any_grant =
    session (record { words = 65536 ∷ 65537 ∷ []; operands = two; starts = zeros; cells = no_cells; codes = 0 ∷ 0 ∷ 17 ∷ 49 ∷ [] })
    (record {
      fresh = 0;
      answers = replicate 4 0;
      registers = tag 2 ∷ num n0 ∷ num n0 ∷ num n0 ∷ [];
      cells = no_cells;
      log = [];
      left = 2;
      drained = false;
      lowest = some 18;
      alone = record { registers = n2·25 ∷ n0 ∷ n0 ∷ n0 ∷ []; cells = no_cells };
    })

-- "Setting R1's tag before reading R1 as source": LD F0,0; MDR F0,F0: sink and source are the buffer's, not the station's own
abbrev own_tag : Row
own_tag =
    session (record { words = 65536 ∷ 524288 ∷ []; operands = two; starts = zeros; cells = no_cells; codes = 0 ∷ 0 ∷ 17 ∷ 49 ∷ 40 ∷ 56 ∷ [] })
    (ended (replicate 6 0) (n2·25 ∷ n0 ∷ n0 ∷ n0 ∷ []) no_cells [])

-- "Leaving a tag in a store buffer after its giver is free": LD F0,0; STD F0,0; LD F0,1: buffer 1 is taken again before the release
abbrev left_tag : Row
left_tag =
    session (record { words = 65536 ∷ 720896 ∷ 65537 ∷ []; operands = two; starts = zeros; cells = no_cells; codes = 0 ∷ 0 ∷ 17 ∷ 49 ∷ 0 ∷ 17 ∷ 49 ∷ 65 ∷ [] })
    (ended (replicate 8 0) (n2·25 ∷ n0 ∷ n0 ∷ n0 ∷ []) (n1·5 ∷ replicate 7 n0) (record { place = 1; cell = 0; number = n1·5 } ∷ []))

-- "Letting two stores to one cell release in either order": STD F0,5; STD F2,5: the second issues only after the first's release
abbrev either_order : Row
either_order =
    session (record { words = 720901 ∷ 729093 ∷ []; operands = []; starts = n1 ∷ n2 ∷ n0 ∷ n0 ∷ []; cells = no_cells; codes = 0 ∷ 0 ∷ 66 ∷ 65 ∷ 0 ∷ 66 ∷ 65 ∷ [] })
    (ended (0 ∷ 7 ∷ 7 ∷ 0 ∷ 0 ∷ 7 ∷ 0 ∷ []) (n1 ∷ n2 ∷ n0 ∷ n0 ∷ []) (n0 ∷ n0 ∷ n0 ∷ n0 ∷ n0 ∷ n2 ∷ n0 ∷ n0 ∷ [])
    (record { place = 0; cell = 5; number = n1 } ∷ record { place = 1; cell = 5; number = n2 } ∷ []))

abbrev pub short_cuts : List Row
short_cuts = any_grant ∷ own_tag ∷ left_tag ∷ either_order ∷ []
