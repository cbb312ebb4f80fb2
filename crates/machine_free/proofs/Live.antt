-- Some live store buffer has a cell: one of the three.
use mathlib.Core.Path.{◌≡◌, refl}
use mathlib.Core.Bool.{Bool, true, false, not, ◌&&◌, ◌||◌}
use mathlib.Core.List.{List, [], ◌∷◌, map}
use Prim.Native.Nat.{ℕ}
use native.Mathlib.Omega.{arith}
use lib.ListN.{length}
use Rattle.std.specs.List.{list_any}
use Rattle.theory_machine.specs.Machine.{store_cell}
use Rattle.theory_machine.specs.GoodOrder.{has_cell}
use Rattle.machine_parts.specs.View.{view_store}
use Rattle.machine_parts.specs.declared.StoreBuffer.{StoreBuffer}
use Rattle.machine_free.specs.Free.{cell_live_in}

some_of : (a b c : Bool) → a || (b || (c || false)) ≡ not (not c && (not b && (not a && true)))
some_of true true true = refl
some_of true true false = refl
some_of true false true = refl
some_of true false false = refl
some_of false true true = refl
some_of false true false = refl
some_of false false true = refl
some_of false false false = refl

pub some_live : (ts : List StoreBuffer) (cell : ℕ) → length ts ≡ 3 → list_any (λ t. has_cell cell (store_cell (view_store t))) ts ≡ cell_live_in (map view_store ts) cell
some_live [] cell e = absurd (omega arith)
some_live (a ∷ []) cell e = absurd (omega arith)
some_live (a ∷ b ∷ []) cell e = absurd (omega arith)
some_live (a ∷ b ∷ c ∷ []) cell e =
    let has : StoreBuffer → Bool = λ t. has_cell cell (store_cell (view_store t)) in
    some_of (has a) (has b) (has c)
some_live (a ∷ b ∷ c ∷ d ∷ l) cell e = absurd (omega arith)
