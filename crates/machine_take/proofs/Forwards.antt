-- A number of a schedule takes a byte or more.
use mathlib.Core.Path.{◌≡◌}
use mathlib.Core.Bool.{Bool, true, false, cond}
use mathlib.Core.List.{List, [], ◌∷◌}
use Prim.Native.Nat.{ℕ, zero, suc, ◌+◌, ◌<◌}
use native.Mathlib.Omega.{arith}
use lib.Dec.{eqb, ltb}
use lib.ListN.{drop}
use Rattle.seven_bit.specs.SevenBits.{Groups, whole, broken, follows, number_limit, after_second, joined, last_group, later_groups, groups, limited, number_in, accepted, placed, number_at}

abbrev Some : Groups → Type 0
Some (whole value size) = 0 < size
Some (broken refusal) = Unit

either : (b : Bool) (g h : Groups) → Some g → Some h → Some (cond b g h)
either true g h p q = p
either false g h p q = q

some-joined : (byte : ℕ) (g : Groups) → Some g → Some (joined byte g)
some-joined byte (whole value size) p = omega arith
some-joined byte (broken refusal) p = tt

some-last : (byte : ℕ) → Some (last_group byte)
some-last byte = either (eqb byte 0) (broken 9) (whole byte 1) tt (omega arith)

some_later : (more : ℕ) (bytes : List ℕ) → Some (later_groups more bytes)
some_later more [] = tt
some_later zero (byte ∷ bytes) = either (follows byte) (broken 9) (last_group byte) tt (some-last byte)
some_later (suc more) (byte ∷ bytes) =
    either (follows byte) (joined byte (later_groups more bytes)) (last_group byte) (some-joined byte (later_groups more bytes) (some_later more bytes)) (some-last byte)

some-groups : (bytes : List ℕ) → Some (groups bytes)
some-groups [] = tt
some-groups (byte ∷ bytes) =
    either (follows byte) (joined byte (later_groups after_second bytes)) (whole byte 1)
    (some-joined byte (later_groups after_second bytes) (some_later after_second bytes)) (omega arith)

some-limited : (g : Groups) → Some g → Some (limited g)
some-limited (whole value size) p = either (ltb number_limit value) (broken 9) (whole value size) tt p
some-limited (broken refusal) p = tt

pub moves_on : (bytes : List ℕ) (at : ℕ) {value next : ℕ} → number_at bytes at ≡ accepted value next → at < next
unfolding number_at number_in
moves_on bytes at {value} {next} e = go (limited (groups (drop at bytes))) (some-limited (groups (drop at bytes)) (some-groups (drop at bytes))) e
  where
    go : (g : Groups) → Some g → placed at g ≡ accepted value next → at < next
    go (whole v size) p q = let z : at + size ≡ next = cc in omega arith
    go (broken r) p q = let z : ◌≡◌ {A = ℕ} 0 1 = cc in absurd (omega arith)
