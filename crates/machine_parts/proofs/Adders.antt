-- Which stations suit an operation, by their index: a station that does not exist, the add stations, the other two.
use mathlib.Core.Path.{◌≡◌, refl, sym}
use mathlib.Core.Bool.{Bool, true, false}
use Prim.Native.Nat.{ℕ, ◌-◌, ◌≤◌, ◌<◌}
use native.Mathlib.Omega.{arith}
use lib.Dec.{ltb, leb}
use borrow.Author.Tests.{lt-leb, lt-ltb, le-ltb, leb-true, leb-false, ltb-true, ltb-false}
use Rattle.numbers.specs.declared.Operation.{Operation}
use Rattle.numbers.specs.declared.Operation.TheVariants.{Add, Subtract, Multiply, Divide}
use Rattle.theory_machine.specs.Tags.{first_station, first_adder, last_adder, station_count, station_tag, is_adder, is_multiplier, suits}
use Rattle.theory_machine.proofs.Rows.{inside, above}

abbrev pub adders : ℕ
adders = first_adder - first_station

module _ (i : ℕ) where
  pub no_station_lem : station_count ≤ i → (o : Operation) → false ≡ suits i o
  no_station_lem h Add = sym (above first_adder last_adder (station_tag i) (omega arith))
  no_station_lem h Subtract = sym (above first_adder last_adder (station_tag i) (omega arith))
  no_station_lem h Multiply = sym (le-ltb (station_tag i) first_adder (omega arith))
  no_station_lem h Divide = sym (le-ltb (station_tag i) first_adder (omega arith))

  pub adder_index : i < station_count → leb adders i ≡ is_adder i
  adder_index h = go (leb adders i) refl
    where
      go : (b : Bool) → leb adders i ≡ b → leb adders i ≡ is_adder i
      go true e = rw (e, inside first_adder last_adder (station_tag i) (omega (arith, leb-true adders i e)) (omega arith))
      go false e = rw (e, lt-leb first_adder (station_tag i) (omega (arith, leb-false adders i e)))

  pub other_index : ltb i adders ≡ is_multiplier i
  other_index = go (ltb i adders) refl
    where
      go : (b : Bool) → ltb i adders ≡ b → ltb i adders ≡ is_multiplier i
      go true e = rw (e, lt-ltb (station_tag i) first_adder (omega (arith, ltb-true i adders e)))
      go false e = rw (e, le-ltb (station_tag i) first_adder (omega (arith, ltb-false i adders e)))
