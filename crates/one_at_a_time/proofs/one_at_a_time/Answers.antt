use mathlib.Core.Path.{◌≡◌, refl}
use lib.ListN.{length}
use borrow.Author.Rules.{rules}
use Rattle.words.proofs.Refusals.{number_real}
use Rattle.theory_machine.specs.Tags.{register_count}
use Rattle.theory_machine.specs.Binary64.{binary64}
use Rattle.machine_parts.specs.View.{lent}
use Rattle.machine_parts.proofs.Checked.{list_passes, run-refused, run-taken}
use Rattle.one_at_a_time.proofs.Runs.{running_none, running_checked, running_four, running_more, running_all}
use Rattle.one_at_a_time.proofs.one_at_a_time.Goals as goal

pub returns-in-Err : goal.returns-in-Err
returns-in-Err c = run-refused binary64 _ (rw c.of.ensures at c.in-Err.ensures) (number_real _) _

pub loop-word-init : goal.loop-word-init
loop-word-init c = running_none

pub execute-requires : goal.execute-requires
execute-requires c =
    let a = c.args in
    let lists = lent a.words.now a.operands.now a.results.now in
    let long : length a.starts ≡ register_count = search rules in
    record {
      word_value = running_checked c.loop-word.invariant (list_passes binary64 lists (rw c.of.ensures at c.in_default.ensures) refl) c.loop-word-test.true;
      registers_len = running_four c.loop-word.invariant long;
    }

pub loop-word-preserved : goal.loop-word-preserved
loop-word-preserved c =
    running_more c.loop-word.invariant c.loop-word-test.true c.execute.auto.results c.execute.ensures

pub shape_of-results : goal.shape_of-results
shape_of-results c = c.loop-word.invariant.same

pub returns : goal.returns
returns c =
    rw (running_all c.loop-word.invariant c.loop-word-test.false)
    (run-taken binary64 _ (rw c.of.ensures at c.in_default.ensures) refl _)
