use mathlib.Core.Path.{sym, ap, ◌∙◌}
use native.Mathlib.Omega.{arith}
use Rattle.std.proofs.lemmas.List.{take_rest}
use Rattle.theory_machine.specs.Rows.{sum}
use Rattle.theory_machine.specs.Instruction.{decode}
use Rattle.theory_machine.specs.Count.{instruction_left}
use Rattle.theory_machine.specs.Binary64.{binary64}
use Rattle.machine_parts.specs.View.{view}
use Rattle.theory_machine.proofs.Entries.{left-refused, left-counted}
use Rattle.words.proofs.Refusals.{number_real, handed_on}
use Rattle.steps_left.specs.Answers.{view_left}
use Rattle.steps_left.proofs.Weights.{words_weigh, all_left, next_within}
use Rattle.steps_left.proofs.steps_left.Goals as goal

pub returns-in_err-entry_refusal : goal.returns-in_err-entry_refusal
returns-in_err-entry_refusal c =
    let e = rw c.of.ensures at c.in_err-entry_refusal.ensures in
    ap view_left (handed_on _ _ c.from_residual.ensures.1) ∙ rw e (sym (left-refused binary64 _ _ (λ z. number_real _ (e ∙ z))))

pub offset_bounds-words-m : goal.offset_bounds-words-m
offset_bounds-words-m c =
    omega (arith, next_within _ _ _ (sym (rw c.of.ensures at c.in_ok-entry_refusal.ensures)), c.well_formed)

pub slice_bounds-row_left-count : goal.slice_bounds-row_left-count
slice_bounds-row_left-count c = next_within _ _ _ (sym (rw c.of.ensures at c.in_ok-entry_refusal.ensures))

pub slice_bounds-row_left-start : goal.slice_bounds-row_left-start
slice_bounds-row_left-start c = next_within _ _ _ (sym (rw c.of.ensures at c.in_ok-entry_refusal.ensures))

pub row_left-requires : goal.row_left-requires
row_left-requires c =
    let a = c.args in
    omega (arith, ap (sum (λ w. instruction_left (decode w))) (take_rest a.words.now a.m.next), words_weigh a.m.next a.words.now, c.well_formed)

pub overflow_add-result : goal.overflow_add-result
overflow_add-result c =
    let a = c.args in
    let w = c.row_left.ensures ∙ ap (sum (λ w. instruction_left (decode w))) (take_rest a.words.now a.m.next) in
    omega (arith, w, words_weigh a.m.next a.words.now, c.well_formed)

pub returns : goal.returns
returns c =
    let a = c.args in
    let w = c.row_left.ensures ∙ ap (sum (λ w. instruction_left (decode w))) (take_rest a.words.now a.m.next) in
    rw (all_left a.words.now (view a.m) w c.slots_left.ensures)
    (sym (left-counted binary64 _ _ (sym (rw c.of.ensures at c.in_ok-entry_refusal.ensures))))
