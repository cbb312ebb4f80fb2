-- P2's ten bytes; P11 by the list check; P12.
use Rattle.std.specs.Prelude.{List, [], ◌∷◌}
use Rattle.theory_sessions.specs.Session.{Row, checked, checked_alone, read, written}

-- "words 65,536, 196,609, 720,896 and back to the ten file bytes"
abbrev example_file : Row
example_file = read (0x03 ∷ 0x01 ∷ 0x00 ∷ 0x00 ∷ 0x03 ∷ 0x00 ∷ 0x01 ∷ 0x0B ∷ 0x00 ∷ 0x00 ∷ []) 0 10 (65536 ∷ 196609 ∷ 720896 ∷ [])

abbrev example_back : Row
example_back = written (65536 ∷ 196609 ∷ 720896 ∷ []) (0x03 ∷ 0x01 ∷ 0x00 ∷ 0x00 ∷ 0x03 ∷ 0x00 ∷ 0x01 ∷ 0x0B ∷ 0x00 ∷ 0x00 ∷ [])

abbrev pub files : List Row
files =
    example_file
    ∷ example_back
    -- "P11 Words 0 and 786,432: 2; 69,632: 3; 65,792: 4.": without areas, and with areas of 300 cells; the cell before is good
    ∷ checked_alone (0 ∷ []) 2 0
    ∷ checked_alone (786432 ∷ []) 2 0
    ∷ checked_alone (69632 ∷ []) 3 0
    ∷ checked_alone (65792 ∷ []) 4 0
    ∷ checked_alone (65791 ∷ []) 0 1
    ∷ checked 300 300 (0 ∷ []) 2 0
    ∷ checked 300 300 (786432 ∷ []) 2 0
    ∷ checked 300 300 (69632 ∷ []) 3 0
    ∷ checked 300 300 (65792 ∷ []) 4 0
    ∷ checked 300 300 (65791 ∷ []) 0 1
    -- "P12 Files `81`: 8 at 0; `80 00`: 9 at 0; `00 00`: 10 at 1; `81 20`: 1 at 0."
    ∷ read (0x81 ∷ []) 8 0 []
    ∷ read (0x80 ∷ 0x00 ∷ []) 9 0 []
    ∷ read (0x00 ∷ 0x00 ∷ []) 10 1 []
    ∷ read (0x81 ∷ 0x20 ∷ []) 1 0 []
    ∷ []
