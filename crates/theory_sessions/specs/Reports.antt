-- Document 01, "The report program": the worked run's nine lines, and stop lines.
use Rattle.std.proofs.Math.Option.{none, some}
use Rattle.std.specs.Prelude.{List, [], ◌∷◌, ◌++◌, ℕ, replicate}
use Rattle.printing.specs.Ascii.{ascii}
use Rattle.theory_sessions.specs.Session.{Row, printed}

-- "List `03 01 00 00 03 00 01 0B 00 00`, operands 1.5 and 2.25, schedule `00 00 00 12 11 32 31 2A 3A 41`"
abbrev list : List ℕ
list = 0x03 ∷ 0x01 ∷ 0x00 ∷ 0x00 ∷ 0x03 ∷ 0x00 ∷ 0x01 ∷ 0x0B ∷ 0x00 ∷ 0x00 ∷ []

abbrev operands : List ℕ
operands = 0x3F ∷ 0xF8 ∷ replicate 6 0x00 ++ 0x40 ∷ 0x02 ∷ replicate 6 0x00

abbrev schedule : List ℕ
schedule = 0x00 ∷ 0x00 ∷ 0x00 ∷ 0x12 ∷ 0x11 ∷ 0x32 ∷ 0x31 ∷ 0x2A ∷ 0x3A ∷ 0x41 ∷ []

-- "print exactly"
abbrev worked : Row
worked =
    printed (some list) (some operands) (some schedule)
    (ascii "steps 10\n"
    ++ ascii "refusal 0 at 10\n"
    ++ ascii "left 0\n"
    ++ ascii "F0 400E000000000000\n"
    ++ ascii "F2 0000000000000000\n"
    ++ ascii "F4 0000000000000000\n"
    ++ ascii "F6 0000000000000000\n"
    ++ ascii "log 1\n"
    ++ ascii "2 0 400E000000000000\n")

-- a run that is refused: the steps before it stand, and a register waits
abbrev waits : Row
waits =
    printed (some list) (some operands) (some (0x00 ∷ 0x00 ∷ 0x41 ∷ []))
    (ascii "steps 2\n"
    ++ ascii "refusal 7 at 2\n"
    ++ ascii "left 8\n"
    ++ ascii "F0 tag 10\n"
    ++ ascii "F2 0000000000000000\n"
    ++ ascii "F4 0000000000000000\n"
    ++ ascii "F6 0000000000000000\n"
    ++ ascii "log 0\n")

abbrev pub reports : List Row
reports =
    worked
    ∷ waits
    -- "`stopped NAME missing`"; "the first file at fault in that order is shown"
    ∷ printed none none none (ascii "stopped list missing\n")
    ∷ printed (some list) none none (ascii "stopped operands missing\n")
    ∷ printed (some list) (some operands) none (ascii "stopped schedule missing\n")
    -- "A list refused by the reader gives its number and byte place", before the operands are looked at
    ∷ printed (some (0x80 ∷ 0x00 ∷ [])) none (some schedule) (ascii "stopped list 9 at 0\n")
    -- "a cut pattern gives 8 at its start"
    ∷ printed (some list) (some (operands ++ 0x40 ∷ [])) none (ascii "stopped operands 8 at 16\n")
    -- "operands above 2,048 bytes give 4 at 2048", before 8; "missing comes first, then 11, 4, 8"
    ∷ printed (some list) (some (replicate 2049 0x00)) (some schedule) (ascii "stopped operands 4 at 2048\n")
    ∷ printed (some list) (some (replicate 65537 0x00)) (some schedule) (ascii "stopped operands 11 at 65536\n")
    -- "one refused against the areas gives `stopped areas N at PLACE`, with the word's place, after all three files are found good"
    ∷ printed (some list) (some []) (some schedule) (ascii "stopped areas 4 at 0\n")
    ∷ printed (some list) (some (replicate 8 0x00)) (some []) (ascii "stopped areas 4 at 1\n")
    ∷ printed (some list) (some []) none (ascii "stopped schedule missing\n")
    ∷ []
