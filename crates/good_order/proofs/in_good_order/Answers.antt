use mathlib.Core.Path.{◌≡◌, refl, sym, ap, ◌∙◌}
use mathlib.Core.Bool.{Bool, true, false, ◌&&◌}
use mathlib.Core.List.{List}
use Prim.Native.Nat.{ℕ, ◌≤◌}
use native.Mathlib.Omega.{arith}
use lib.Dec.{leb}
use lib.Ieee.{Float}
use lib.ListN.{length}
use borrow.Author.Tests.{lt-leb, le-leb}
use Rattle.words.specs.declared.Areas.{Areas}
use Rattle.theory_machine.specs.Machine.{Machine}
use Rattle.theory_machine.specs.GoodOrder.{good_order}
use Rattle.theory_machine.specs.Binary64.{binary64}
use Rattle.machine_parts.specs.View.{view}
use Rattle.good_order.specs.SlotRules.{never, place_in, giver_place, buffers_good, stations_good, registers_good, stores_good, stores_apart}
use Rattle.good_order.proofs.Placed.{same_places}
use Rattle.good_order.proofs.BySlots.{by_slots}
use Rattle.good_order.proofs.in_good_order.Goals as goal
use Rattle.good_order.proofs.in_good_order.Goals.{Joined-registers_good}
use Rattle.good_order.proofs.in_good_order.Goals.{then-m-words, else-m-words, then-buffers_good, else-buffers_good, then-stations_good, else-stations_good, then-registers_good, else-registers_good}

in_turn : (a b c d e f : Bool) → ((((a && b) && c) && d) && e) && f ≡ a && (b && (c && (d && (e && (f && true)))))
in_turn false b c d e f = refl
in_turn true false c d e f = refl
in_turn true true false d e f = refl
in_turn true true true false e f = refl
in_turn true true true true false f = refl
in_turn true true true true true false = refl
in_turn true true true true true true = refl

whole : (words : List ℕ) (areas : Areas) (m : Machine Float) {v1 v2 v3 v4 : Bool} → length words ≤ never
    → v1 ≡ leb m.next (length words) && buffers_good m.next areas.operands m.buffers
    → v2 ≡ v1 && stations_good (giver_place m) m.next m.stations
    → v3 ≡ v2 && registers_good (giver_place m) binary64.nought m.registers
    → v4 ≡ v3 && stores_good (giver_place m) m.next areas.results m.stores
    → v4 && stores_apart m.stores ≡ good_order binary64 words areas m
whole words areas m short e1 e2 e3 e4 =
    rw (e4, e3, e2, e1, by_slots binary64 words areas m short)
    (in_turn (leb m.next (length words)) (buffers_good m.next areas.operands m.buffers) (stations_good (giver_place m) m.next m.stations)
    (registers_good (giver_place m) binary64.nought m.registers) (stores_good (giver_place m) m.next areas.results m.stores) (stores_apart m.stores))

-- all but the last test, whichever of the two ways the code goes on
so_far : (c : Joined-registers_good)
    → c.if-registers_good.value && stores_apart (view c.args.m).stores ≡ good_order binary64 c.args.words.now c.args.areas (view c.args.m)
so_far c =
    let a = c.args in
    let m = view a.m in
    let places = ap place_in c.giver_places-places.ensures ∙ same_places m.buffers m.stations in
    let upto_buffers : c.if-m-words.value ≡ leb m.next (length a.words.now) && buffers_good m.next a.areas.operands m.buffers =
    elim c.if-m-words.branch [
      | then-m-words w ↦ rw (le-leb _ _ w.if-m-words.true) (w.value-is ∙ w.buffers_good.ensures)
      | else-m-words w ↦ rw (lt-leb _ _ w.if-m-words.false) (w.value-is ∙ lt-leb _ _ w.if-m-words.false)
    ] in
    let upto_stations : c.if-buffers_good.value ≡ c.if-m-words.value && stations_good (giver_place m) m.next m.stations =
    elim c.if-buffers_good.branch [
      | then-buffers_good w ↦ rw (w.if-buffers_good.true, ← places) (w.value-is ∙ w.stations_good.ensures)
      | else-buffers_good w ↦ rw w.if-buffers_good.false (w.value-is ∙ w.if-buffers_good.false)
    ] in
    let upto_registers : c.if-stations_good.value ≡ c.if-buffers_good.value && registers_good (giver_place m) binary64.nought m.registers =
    elim c.if-stations_good.branch [
      | then-stations_good w ↦ rw (w.if-stations_good.true, ← places) (w.value-is ∙ w.registers_good.ensures)
      | else-stations_good w ↦ rw w.if-stations_good.false (w.value-is ∙ w.if-stations_good.false)
    ] in
    let upto_stores : c.if-registers_good.value ≡ c.if-stations_good.value && stores_good (giver_place m) m.next a.areas.results m.stores =
    elim c.if-registers_good.branch [
      | then-registers_good w ↦ rw (w.if-registers_good.true, ← places) (w.value-is ∙ w.stores_good.ensures)
      | else-registers_good w ↦ rw w.if-registers_good.false (w.value-is ∙ w.if-registers_good.false)
    ] in
    whole a.words.now a.areas m (omega arith) upto_buffers upto_stations upto_registers upto_stores

pub returns-then-stores_good : goal.returns-then-stores_good
returns-then-stores_good c =
    c.stores_apart.ensures ∙ ap (λ (b : Bool). b && stores_apart (view c.args.m).stores) (sym c.if-stores_good.true)
    ∙ so_far (record { before = c.before.before.before.before; type_inv = record { words = c.type_inv.words } })

pub returns-else-stores_good : goal.returns-else-stores_good
returns-else-stores_good c =
    c.if-stores_good.false ∙ ap (λ (b : Bool). b && stores_apart (view c.args.m).stores) (sym c.if-stores_good.false)
    ∙ so_far (record { before = c.before.before; type_inv = record { words = c.type_inv.words } })
