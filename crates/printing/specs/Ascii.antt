-- A text as its bytes. (Only texts in ASCII are given: a byte is then a character's number.)
use Rattle.std.specs.Prelude.{List, [] as noBytes, ◌∷◌ as ◌then◌, ℕ}
use Prim.Native.Char.{code}
use Prim.Native.String.{String, [], ◌∷◌}

abbrev pub ascii : String → List ℕ
ascii [] = noBytes
ascii (letter ∷ letters) = code letter then ascii letters
