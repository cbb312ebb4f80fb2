-- Numbers and patterns as text, in ASCII.
use Rattle.std.specs.Prelude.{cond, List, [], ◌∷◌, ◌++◌, ℕ, zero, suc, ◌+◌, ◌/◌, ◌%◌, ltb}

-- 0 to 9, then A to F
abbrev pub digit : ℕ → ℕ
digit d = cond (ltb d 10) (48 + d) (55 + d)

-- "numbers decimal": the digits, the highest first; so many may stand before the last
abbrev pub digits_of : (more n : ℕ) → List ℕ
digits_of zero n = digit n ∷ []
digits_of (suc more) n =
    let front = digits_of more (n / 10) in
    cond (ltb n 10) (digit n ∷ []) (front ++ digit (n % 10) ∷ [])

-- a number has fewer digits than itself, or one
unfoldable pub decimal : ℕ → List ℕ
decimal n = digits_of n n

-- so many hexadecimal digits, the highest first
abbrev pub hexadecimal : (digits n : ℕ) → List ℕ
hexadecimal zero n = []
hexadecimal (suc digits) n = hexadecimal digits (n / 16) ++ digit (n % 16) ∷ []

-- a pattern of 64 bits
unfoldable pub pattern : ℕ → List ℕ
pattern n = hexadecimal 16 n
