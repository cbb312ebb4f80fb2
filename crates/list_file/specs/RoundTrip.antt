-- Demand 2's two round trips: what they say. They are proved in proofs/.
use Rattle.std.specs.Prelude.{◌≡◌, List, ℕ, ◌<◌, get_or, take}
use Rattle.list_file.specs.Reading.{read_answer, read_words}
use Rattle.list_file.specs.Writing.{write_answer, write_bytes}

-- every element is a byte
abbrev pub Bytes : List ℕ → Type 0
Bytes row = (i : ℕ) → get_or row i 0 < 256

-- A file that is read, and whose words are then written, comes back: for every file and every two buffers, wherever neither is refused.
abbrev pub ReadThenWrite : Type 0
ReadThenWrite =
    (file words bytes : List ℕ) → Bytes file
    → let read = read_answer file words in
    let list = take read.count (read_words file words) in
    let written = write_answer list bytes in
    read.refusal ≡ 0
    → written.refusal ≡ 0
    → take written.length (write_bytes list bytes) ≡ file

-- A list that is written, and whose file is then read, comes back: for every list and every two buffers, wherever neither is refused.
abbrev pub WriteThenRead : Type 0
WriteThenRead =
    (list bytes words : List ℕ)
    → let written = write_answer list bytes in
    let file = take written.length (write_bytes list bytes) in
    let read = read_answer file words in
    written.refusal ≡ 0
    → read.refusal ≡ 0
    → take read.count (read_words file words) ≡ list
