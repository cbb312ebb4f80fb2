-- How long a line is at most.
use mathlib.Core.List.{List}
use Prim.Native.Nat.{ℕ, ◌≤◌, ◌<◌}
use native.Mathlib.Omega.{arith}
use lib.ListN.{length, length-append}
use Rattle.printing.specs.Lines.{answer_text, count_line, missing_line, refused_line}
use Rattle.printing.specs.Put.{answer_limit, count_limit, stop_limit}
use Rattle.printing.proofs.Decimals.{decimal_size}

pub answer_size : (number place : ℕ) → number < 18446744073709551616 → place < 18446744073709551616 → length (answer_text number place) ≤ answer_limit
answer_size number place h k = simp length-append (omega (arith, decimal_size number h, decimal_size place k))

pub count_size : (label : List ℕ) (n : ℕ) → n < 18446744073709551616 → length (count_line label n) ≤ count_limit label
count_size label n h = simp length-append (omega (arith, decimal_size n h))

pub missing_size : (name : List ℕ) → length (missing_line name) ≤ stop_limit name
missing_size name = simp length-append (omega arith)

pub refused_size : (name : List ℕ) (number place : ℕ) → number < 18446744073709551616 → place < 18446744073709551616
    → length (refused_line name number place) ≤ stop_limit name
refused_size name number place h k = simp length-append (omega (arith, decimal_size number h, decimal_size place k))
