-- Where the check of a list stands at one of its places.
use mathlib.Core.Path.{◌≡◌}
use mathlib.Core.List.{List}
use Prim.Native.Nat.{ℕ, ◌+◌, ◌≤◌, ◌<◌}
use native.Mathlib.Numerals.{add-one}
use native.Mathlib.Omega.{arith}
use lib.ListN.{length, get_or, drop, drop_of_length-le}
use lib.Seq.{drop-cons}
use borrow.Author.Tests.{eq-eqb, ne_eqb}
use Rattle.words.specs.declared.Areas.{Areas}
use Rattle.words.specs.Check.{word_refusal, first_bad}

module _ (areas : Areas) (words : List ℕ) (place : ℕ) where
  pub bad_here : place < length words → (word_refusal areas (get_or words place 0) ≡ 0 → ⊥)
      → first_bad areas place (drop place words) ≡ record { refusal = word_refusal areas (get_or words place 0); place = place }
  bad_here h n = rw (drop-cons words place 0, ne_eqb _ 0 n)

  pub bad_later : place < length words → word_refusal areas (get_or words place 0) ≡ 0
      → first_bad areas place (drop place words) ≡ first_bad areas (place + 1) (drop (place + 1) words)
  bad_later h e = rw (drop-cons words place 0, eq-eqb _ 0 e, add-one)

  pub bad_none : length words ≤ place → place ≤ length words → first_bad areas place (drop place words) ≡ record { refusal = 0; place = length words }
  bad_none h g = let e : place ≡ length words = omega arith in rw (drop_of_length-le words h, e)
