-- Each operation 1 to 11 of document 01's table, with numbers that tell its operands apart: R1 is F0, 7.5; the operand is cell 1 or F2, 2.5.
use Rattle.std.specs.Prelude.{List, [], ◌∷◌, ℕ, length, replicate, Float}
use Rattle.theory_sessions.specs.Numbers.{n0, n1, n2, n2·5, n3, n5, n7·5, n10, n18·75, n64}
use Rattle.theory_sessions.specs.Session.{ended, Row, session}
use Rattle.theory_sessions.specs.Sessions.{no_cells}

-- the word, the codes that drain it, and F0 at the end
abbrev operation : (word : ℕ) (codes : List ℕ) → Float → Row
operation word codes f0 =
    session (record { words = word ∷ []; operands = n64 ∷ n2·5 ∷ []; starts = n7·5 ∷ n2·5 ∷ n1 ∷ n2 ∷ []; cells = no_cells; codes = codes })
    (ended (replicate (length codes) 0) (f0 ∷ n2·5 ∷ n1 ∷ n2 ∷ []) no_cells [])

-- arithmetic goes through station 10 or 8, of cells with buffer 1 first
abbrev pub operations : List Row
operations =
    -- LD F0,1; LDR F0,F2
    operation 65537 (0 ∷ 17 ∷ 49 ∷ []) n2·5
    ∷ operation 131074 (0 ∷ []) n2·5
    -- AD F0,1; ADR F0,F2
    ∷ operation 196609 (0 ∷ 17 ∷ 49 ∷ 42 ∷ 58 ∷ []) n10
    ∷ operation 262146 (0 ∷ 42 ∷ 58 ∷ []) n10
    -- SD F0,1; SDR F0,F2
    ∷ operation 327681 (0 ∷ 17 ∷ 49 ∷ 42 ∷ 58 ∷ []) n5
    ∷ operation 393218 (0 ∷ 42 ∷ 58 ∷ []) n5
    -- MD F0,1; MDR F0,F2
    ∷ operation 458753 (0 ∷ 17 ∷ 49 ∷ 40 ∷ 56 ∷ []) n18·75
    ∷ operation 524290 (0 ∷ 40 ∷ 56 ∷ []) n18·75
    -- DD F0,1; DDR F0,F2
    ∷ operation 589825 (0 ∷ 17 ∷ 49 ∷ 40 ∷ 56 ∷ []) n3
    ∷ operation 655362 (0 ∷ 40 ∷ 56 ∷ []) n3
    -- STD F2,1
    ∷ session (record { words = 729089 ∷ []; operands = n64 ∷ n2·5 ∷ []; starts = n7·5 ∷ n2·5 ∷ n1 ∷ n2 ∷ []; cells = no_cells; codes = 0 ∷ 65 ∷ [] })
    (ended (0 ∷ 0 ∷ []) (n7·5 ∷ n2·5 ∷ n1 ∷ n2 ∷ []) (n0 ∷ n2·5 ∷ replicate 6 n0) (record { place = 0; cell = 1; number = n2·5 } ∷ []))
    ∷ []
