-- A number of a schedule: its bytes are there, one or more; and one that is at fault has a refusal.
use mathlib.Core.Logic.{◌≢◌}
use mathlib.Core.List.{List, [], ◌∷◌}
use Prim.Native.Nat.{ℕ, zero, suc, ◌≤◌, ◌<◌}
use native.Mathlib.Omega.{arith}
use lib.Dec.{ltb, eqb}
use lib.ListN.{length, drop, length-drop}
use Rattle.seven_bit.specs.SevenBits.{Parsed, accepted, refused, Groups, whole, broken, follows, joined, last_group, later_groups, groups, limited, number_limit, number_in, placed, number_at}
use Rattle.theory_machine.proofs.Rows.{cond_cases}

-- what bytes give, of so many of them
abbrev Fits : (bytes : ℕ) → Groups → Type 0
Fits bytes (whole value size) = (1 ≤ size) × (size ≤ bytes)
Fits bytes (broken refusal) = refusal ≢ 0

joined-fits : (byte n : ℕ) (g : Groups) → Fits n g → Fits (suc n) (joined byte g)
joined-fits byte n (whole value size) h = (omega arith, omega (arith, h.1))
joined-fits byte n (broken refusal) h = h

last_fits : (byte n : ℕ) → Fits (suc n) (last_group byte)
last_fits byte n = cond_cases (Fits (suc n)) (eqb byte 0) (λ _. λ e. absurd (omega (arith, e))) (λ _. (omega arith, omega arith))

later_fits : (more : ℕ) (bytes : List ℕ) → Fits (length bytes) (later_groups more bytes)
later_fits more [] = λ e. absurd (omega (arith, e))
later_fits zero (byte ∷ bytes) =
    cond_cases (Fits (suc (length bytes))) (follows byte) (λ _. λ e. absurd (omega (arith, e))) (λ _. last_fits byte (length bytes))
later_fits (suc more) (byte ∷ bytes) =
    cond_cases (Fits (suc (length bytes))) (follows byte) (λ _. joined-fits byte (length bytes) (later_groups more bytes) (later_fits more bytes))
    (λ _. last_fits byte (length bytes))

groups_fit : (bytes : List ℕ) → Fits (length bytes) (groups bytes)
groups_fit [] = λ e. absurd (omega (arith, e))
groups_fit (byte ∷ bytes) =
    cond_cases (Fits (suc (length bytes))) (follows byte) (λ _. joined-fits byte (length bytes) (later_groups 1 bytes) (later_fits 1 bytes))
    (λ _. (omega arith, omega arith))

limited-fits : (n : ℕ) (g : Groups) → Fits n g → Fits n (limited g)
limited-fits n (whole value size) h = cond_cases (Fits n) (ltb number_limit value) (λ _. λ e. absurd (omega (arith, e))) (λ _. h)
limited-fits n (broken refusal) h = h

-- the number at a place within the schedule
abbrev pub ReadWithin : (length place : ℕ) → Parsed ℕ → Type 0
ReadWithin n at (accepted code next) = (at < next) × (next ≤ n)
ReadWithin n at (refused number place) = number ≢ 0

pub number_read : (schedule : List ℕ) (at : ℕ) → at < length schedule → ReadWithin (length schedule) at (number_at schedule at)
unfolding number_at number_in
number_read schedule at h =
    go (limited (groups (drop at schedule))) (limited-fits (length (drop at schedule)) (groups (drop at schedule)) (groups_fit (drop at schedule)))
  where
    go : (g : Groups) → Fits (length (drop at schedule)) g → ReadWithin (length schedule) at (placed at g)
    go (whole value size) f = (omega (arith, f.0), omega (arith, f.1, length-drop at schedule))
    go (broken refusal) f = f
