-- The whole text in the lent bytes.
use mathlib.Core.Path.{◌∙◌}
use mathlib.Core.List.{List}
use Prim.Native.Nat.{ℕ, ◌≤◌, ◌<◌}
use native.Mathlib.Omega.{arith}
use lib.ListN.{length}
use borrow.Author.Tests.{lt-ltb, le-ltb}
use Rattle.list_file.proofs.Passed.{sets_over}
use Rattle.printing.specs.Put.{PutIn}
use Rattle.report_text.specs.Put.{Printed}

pub printed_none : {before : List ℕ} (text : List ℕ) → length before < 131072 → Printed before before 0 text
printed_none {before} text h = record { counted = rw (lt-ltb (length before) 131072 h); written = rw (lt-ltb (length before) 131072 h); within = omega arith }

pub printed_put : {before after text : List ℕ} {size : ℕ} → 131072 ≤ length before → PutIn 131072 before after 0 size text → Printed before after size text
printed_put {before} {after} {text} {size} h p = record {
  counted = rw (le-ltb (length before) 131072 h) (omega (arith, p.put.ends));
  written = rw (le-ltb (length before) 131072 h) (p.put.laid ∙ sets_over text before (omega (arith, p.short)));
  within = omega (arith, p.put.ends, p.short);
}
