-- Document 01, "The report program": the operands file, "big-endian patterns of 8 bytes, at most 256".
use Rattle.std.specs.Prelude.{List, [], ◌∷◌, ℕ, zero, suc, ◌+◌, ◌*◌, ◌/◌, length, take, drop, Float}
use Rattle.words.specs.Instructions.{cell_limit}
use Rattle.numbers.specs.Number.{number_of}

abbrev pub pattern_size : ℕ
pattern_size = 8

-- "operands above 2,048 bytes": 256 cells of 8 bytes
abbrev pub operands_limit : ℕ
operands_limit = cell_limit * pattern_size

-- the bytes of a pattern, the highest first
abbrev pub big_endian : (above : ℕ) → List ℕ → ℕ
big_endian above [] = above
big_endian above (byte ∷ bytes) = big_endian (above * 256 + byte) bytes

unfoldable pub pattern_at : List ℕ → (at : ℕ) → ℕ
pattern_at bytes at = big_endian 0 (take pattern_size (drop at bytes))

-- so many numbers, from a place on
abbrev pub numbers_at : (count : ℕ) → List ℕ → (at : ℕ) → List Float
numbers_at zero bytes at = []
numbers_at (suc count) bytes at = number_of (pattern_at bytes at) ∷ numbers_at count bytes (at + pattern_size)

-- the operand cells of a file
abbrev pub operands_in : List ℕ → List Float
operands_in bytes = numbers_at (length bytes / pattern_size) bytes 0
