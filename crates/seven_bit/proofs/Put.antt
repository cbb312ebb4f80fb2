-- A number put at a place, by what the tests of the code say.
use mathlib.Core.Path.{◌≡◌, refl}
use mathlib.Core.Bool.{Bool, true, false, ◌&&◌}
use mathlib.Core.List.{List}
use Prim.Native.Nat.{ℕ, ◌+◌, ◌≤◌, ◌<◌}
use lib.ListN.{length}
use lib.Seq.{sets}
use lib.Dec.{leb}
use borrow.Author.Tests.{le-leb, lt-leb}
use Rattle.seven_bit.specs.SevenBits.{number_limit, bytes_of, fits_at, PutNumber}

neither : (a : Bool) → a && false ≡ false
neither true = refl
neither false = refl

module _ (value : ℕ) (bytes : List ℕ) (at : ℕ) where
  stays : fits_at value bytes at ≡ false → PutNumber value bytes bytes at at
  stays e = record { ends = rw e; stored = rw e }

  pub put_large : number_limit < value → PutNumber value bytes bytes at at
  put_large h = stays (rw (lt-leb value number_limit h))

  pub put-short : length bytes < at + length (bytes_of value) → PutNumber value bytes bytes at at
  put-short k = stays (rw (lt-leb (at + length (bytes_of value)) (length bytes) k) (neither (leb value number_limit)))

  module _ (h : value ≤ number_limit) (k : at + length (bytes_of value) ≤ length bytes) where
    fits-at : fits_at value bytes at ≡ true
    fits-at = rw (le-leb value number_limit h, le-leb (at + length (bytes_of value)) (length bytes) k)

    pub put_there : {end : ℕ} {after : List ℕ} → end ≡ at + length (bytes_of value) → after ≡ sets bytes at (bytes_of value)
        → PutNumber value bytes after at end
    put_there e f = record { ends = rw fits-at e; stored = rw fits-at f }

    -- what a caller learns who knows that it fits
    pub put-fits : {end : ℕ} {after : List ℕ} → PutNumber value bytes after at end
        → (end ≡ at + length (bytes_of value)) × (after ≡ sets bytes at (bytes_of value))
    put-fits w = (rw fits-at at w.ends, rw fits-at at w.stored)
