-- "No two live store buffers have the same cell": three pairs are enough.
use mathlib.Core.Path.{◌≡◌, refl, sym, ap, ◌∙◌}
use mathlib.Core.Bool.{Bool, true, false, not, ◌&&◌}
use mathlib.Core.Option.{Option, none, some}
use mathlib.Core.List.{List, map}
use Prim.Native.Nat.{ℕ}
use lib.Dec.{eqb}
use lib.ListN.{get_or, get_or-map}
use borrow.Author.Tests.{eqb-true, eqb-false, eq-eqb, ne_eqb}
use Rattle.theory_machine.specs.Machine.{StoreBuffer, free_store, store_cell}
use Rattle.theory_machine.specs.GoodOrder.{apart}
use Rattle.machine_parts.specs.declared.StoreBuffer as code
use Rattle.std.specs.Prelude.{None}
use Rattle.machine_parts.specs.View.{view_store}
use Rattle.good_order.specs.SlotRules.{cells_apart, stores_apart}

eqb_sym : (a b : ℕ) → eqb a b ≡ eqb b a
eqb_sym a b = go (eqb b a) refl
  where
    go : (t : Bool) → eqb b a ≡ t → eqb a b ≡ t
    go true e = eq-eqb a b (sym (eqb-true b a e))
    go false e = ne_eqb a b (λ (z : a ≡ b). eqb-false b a e (sym z))

apart_sym : (a b : Option ℕ) → apart a b ≡ apart b a
apart_sym none none = refl
apart_sym none (some d) = refl
apart_sym (some c) none = refl
apart_sym (some c) (some d) = ap not (eqb_sym d c)

module _ {A : Type 0} where
  -- three store buffers
  abbrev pub three_apart : (a b c : StoreBuffer A) → Bool
  three_apart a b c = cells_apart a b && (cells_apart a c && cells_apart b c)

  three-apart : (ts : List (StoreBuffer A)) → stores_apart ts ≡ three_apart (get_or ts 0 free_store) (get_or ts 1 free_store) (get_or ts 2 free_store)
  three-apart ts =
      let cell : ℕ → Option ℕ = λ i. store_cell (get_or ts i free_store) in
      rw (apart_sym (cell 2) (cell 1), apart_sym (cell 2) (cell 0), apart_sym (cell 1) (cell 0))
      (go (apart (cell 0) (cell 1)) (apart (cell 0) (cell 2)) (apart (cell 1) (cell 2)))
    where
      go : (a b c : Bool) → (c && (b && true)) && ((c && (a && true)) && ((b && (a && true)) && true)) ≡ a && (b && c)
      go true true true = refl
      go true true false = refl
      go true false true = refl
      go true false false = refl
      go false true true = refl
      go false true false = refl
      go false false true = refl
      go false false false = refl

-- as the code sees them
abbrev slot : List code.StoreBuffer → (i : ℕ) → code.StoreBuffer
slot l i = get_or l i (record { pending = None })

pub apart_by_pairs : (l : List code.StoreBuffer)
    → stores_apart (map view_store l) ≡ three_apart (view_store (slot l 0)) (view_store (slot l 1)) (view_store (slot l 2))
apart_by_pairs l =
    let at : (i : ℕ) → get_or (map view_store l) i free_store ≡ view_store (slot l i) = λ i. get_or-map view_store l i (record { pending = None }) in
    three-apart (map view_store l) ∙ rw (at 0, at 1, at 2)
