-- The operands file: the pattern of eight bytes, and the cells number by number.
use mathlib.Core.Path.{◌≡◌, refl, ap, ◌∙◌}
use mathlib.Core.List.{List, [], ◌∷◌, append-nil}
use Prim.Native.Nat.{ℕ, zero, suc, ◌+◌, ◌-◌, ◌*◌, ◌/◌, ◌≤◌, ◌<◌}
use native.Mathlib.Numerals.{add-one}
use native.Mathlib.Omega.{arith}
use lib.Ieee.{Float}
use lib.ListN.{length, get_or, set, take, drop, length-set, drop_of_length-le}
use lib.Seq.{sets, sets-eq, drop-drop, length-take-le}
use Rattle.std.specs.Simd.{first_chunks}
use Rattle.std.proofs.Common.{length-drop}
use Rattle.numbers.specs.Number.{number_of}
use Rattle.operands_file.specs.Operands.{big_endian, pattern_at, numbers_at}

-- a pattern of eight bytes is the sum of what they are worth
abbrev pub worth : (pattern : List ℕ) → ℕ
worth pattern =
    get_or pattern 0 0 * 72057594037927936 + get_or pattern 1 0 * 281474976710656 + get_or pattern 2 0 * 1099511627776 + get_or pattern 3 0 * 4294967296
    + get_or pattern 4 0 * 16777216 + get_or pattern 5 0 * 65536 + get_or pattern 6 0 * 256 + get_or pattern 7 0

worth_joined : (pattern : List ℕ) → length pattern ≡ 8 → worth pattern ≡ big_endian 0 pattern
worth_joined [] n = absurd (omega arith)
worth_joined (a ∷ []) n = absurd (omega arith)
worth_joined (a ∷ b ∷ []) n = absurd (omega arith)
worth_joined (a ∷ b ∷ c ∷ []) n = absurd (omega arith)
worth_joined (a ∷ b ∷ c ∷ d ∷ []) n = absurd (omega arith)
worth_joined (a ∷ b ∷ c ∷ d ∷ e ∷ []) n = absurd (omega arith)
worth_joined (a ∷ b ∷ c ∷ d ∷ e ∷ f ∷ []) n = absurd (omega arith)
worth_joined (a ∷ b ∷ c ∷ d ∷ e ∷ f ∷ g ∷ []) n = absurd (omega arith)
worth_joined (a ∷ b ∷ c ∷ d ∷ e ∷ f ∷ g ∷ h ∷ []) n = omega arith
worth_joined (a ∷ b ∷ c ∷ d ∷ e ∷ f ∷ g ∷ h ∷ x ∷ more) n = absurd (omega arith)

-- the i-th of a file's patterns
chunk_at : (count i : ℕ) (bytes none : List ℕ) → i < count → get_or (first_chunks 8 count bytes) i none ≡ take 8 (drop (i * 8) bytes)
chunk_at zero i bytes none h = absurd (omega arith)
chunk_at (suc count) zero bytes none h = refl
chunk_at (suc count) (suc i) bytes none h =
    let e : 8 + i * 8 ≡ suc i * 8 = omega arith in
    chunk_at count i (drop 8 bytes) none (omega arith) ∙ ap (take 8) (drop-drop (i * 8) 8 bytes ∙ ap (λ at. drop at bytes) e)

module _ (bytes : List ℕ) (i : ℕ) (whole : i * 8 + 8 ≤ length bytes) where
  pub pattern_worth : {patterns : List (List ℕ)} (none : List ℕ) → patterns ≡ first_chunks 8 (length bytes / 8) bytes
      → worth (get_or patterns i none) ≡ pattern_at bytes (i * 8)
  unfolding pattern_at
  pattern_worth none is =
      let n : length (take 8 (drop (i * 8) bytes)) ≡ 8 = length-take-le 8 (drop (i * 8) bytes) (omega (arith, length-drop (i * 8) bytes)) in
      rw (is, chunk_at (length bytes / 8) i bytes none (omega arith)) (worth_joined (take 8 (drop (i * 8) bytes)) n)

pub length-numbers : (count : ℕ) (bytes : List ℕ) (at : ℕ) → length (numbers_at count bytes at) ≡ count
length-numbers zero bytes at = refl
length-numbers (suc count) bytes at = ap suc (length-numbers count bytes (at + 8))

-- so many numbers stored
pub record Laying (bytes : List ℕ) (cells₀ : List Float) (count : ℕ) (cells : List Float) (i : ℕ) : Type 0 where
  pub within : i ≤ count
  pub same : length cells ≡ length cells₀
  pub laid : sets cells i (numbers_at (count - i) bytes (i * 8)) ≡ sets cells₀ 0 (numbers_at count bytes 0)

pub laying_none : (bytes : List ℕ) (cells₀ : List Float) (count : ℕ) → Laying bytes cells₀ count cells₀ 0
laying_none bytes cells₀ count = record { within = omega arith; same = refl; laid = let e : count - 0 ≡ count = omega arith in rw e }

module _ {bytes : List ℕ} {cells₀ : List Float} {count : ℕ} {cells : List Float} {i : ℕ} (s : Laying bytes cells₀ count cells i) where
  pub laying_more : i < count → Laying bytes cells₀ count (set cells i (number_of (pattern_at bytes (i * 8)))) (i + 1)
  laying_more h =
      let e : count - i ≡ suc (count - (i + 1)) = omega arith in
      let f : i * 8 + 8 ≡ (i + 1) * 8 = omega arith in
      record {
        within = omega arith;
        same = length-set cells i (number_of (pattern_at bytes (i * 8))) ∙ s.same;
        laid = rw (add-one i) (rw (e, f, add-one i) at s.laid);
      }

  pub laying_all : count ≤ i → length cells₀ ≡ count → cells ≡ numbers_at count bytes 0
  laying_all h n =
      let e : count - i ≡ 0 = omega arith in
      let c : cells ≡ sets cells₀ 0 (numbers_at count bytes 0) = rw e at s.laid in
      let m = length-numbers count bytes 0 in
      let h : length cells₀ ≤ 0 + count = omega arith in
      c ∙ rw (sets-eq (numbers_at count bytes 0) cells₀ 0 (omega arith), m, drop_of_length-le cells₀ h, append-nil)
