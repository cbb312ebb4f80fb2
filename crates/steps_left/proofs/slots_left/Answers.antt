use mathlib.Core.Path.{sym, ◌∙◌}
use Prim.Native.Nat.{◌+◌}
use native.Mathlib.Omega.{arith}
use borrow.Author.Rules.{rules}
use Rattle.theory_machine.specs.Count.{buffer_left, station_left, store_left}
use Rattle.machine_parts.specs.View.{view_buffer, view_station, view_store, view}
use Rattle.steps_left.proofs.Sums.{sum-seen}
use Rattle.steps_left.proofs.Weights.{rows_weigh, slots_left}
use Rattle.machine_parts.proofs.Whole.{whole}
use Rattle.steps_left.proofs.slots_left.Goals as goal

pub row_left-requires : goal.row_left-requires
row_left-requires c =
    let m = c.args.m in
    omega (arith, sum-seen buffer_left view_buffer m.buffers, rows_weigh (view m) (whole m (search rules) (search rules) (search rules) (search rules)))

pub row_left-requires-2 : goal.row_left-requires-2
row_left-requires-2 c =
    let m = c.args.m in
    omega (arith, sum-seen station_left view_station m.stations, rows_weigh (view m) (whole m (search rules) (search rules) (search rules) (search rules)))

pub row_left-requires-3 : goal.row_left-requires-3
row_left-requires-3 c =
    let m = c.args.m in
    omega (arith, sum-seen store_left view_store m.stores, rows_weigh (view m) (whole m (search rules) (search rules) (search rules) (search rules)))

pub overflow_add-result : goal.overflow_add-result
overflow_add-result c =
    let m = c.args.m in
    let b = c.row_left.ensures ∙ sym (sum-seen buffer_left view_buffer m.buffers) in
    let s = c.row_left-2.ensures ∙ sym (sum-seen station_left view_station m.stations) in
    omega (arith, b, s, rows_weigh (view m) (whole m (search rules) (search rules) (search rules) (search rules)))

pub overflow_add-result-2 : goal.overflow_add-result-2
overflow_add-result-2 c =
    let m = c.args.m in
    let b = c.row_left.ensures ∙ sym (sum-seen buffer_left view_buffer m.buffers) in
    let s = c.row_left-2.ensures ∙ sym (sum-seen station_left view_station m.stations) in
    let t = c.row_left-3.ensures ∙ sym (sum-seen store_left view_store m.stores) in
    omega (arith, b, s, t, rows_weigh (view m) (whole m (search rules) (search rules) (search rules) (search rules)))

pub returns : goal.returns
returns c =
    let m = c.args.m in
    let b = c.row_left.ensures ∙ sym (sum-seen buffer_left view_buffer m.buffers) in
    let s = c.row_left-2.ensures ∙ sym (sum-seen station_left view_station m.stations) in
    let t = c.row_left-3.ensures ∙ sym (sum-seen store_left view_store m.stores) in
    slots_left (view m) (c.row_left.result + c.row_left-2.result + c.row_left-3.result) (whole m (search rules) (search rules) (search rules) (search rules)) (cc)
