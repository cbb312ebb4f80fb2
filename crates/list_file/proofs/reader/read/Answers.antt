use mathlib.Core.Path.{refl, sym, ap, ◌∙◌}
use lib.ListN.{length}
use Rattle.words.proofs.Refusals.{number_real, handed_on, placed_err, placed_ok}
use Rattle.list_file.specs.Reading.{count_refusal, list_in}
use Rattle.list_file.specs.Answers.{told_read}
use Rattle.list_file.proofs.Inverse.{field_passes, field_fails, field_broken}
use Rattle.list_file.proofs.Passed.{count_of}
use Rattle.list_file.proofs.reader.read.Goals as goal

pub returns-in_err-count : goal.returns-in_err-count
unfolding list_in
returns-in_err-count c =
    let own = count_refusal (length c.args.words.now) in
    let e = field_broken own _ _ (sym c.in_err-count.ensures) in
    (ap told_read (handed_on _ _ c.from_residual.ensures.1) ∙ rw e, rw e)

pub returns-in_err-placed : goal.returns-in_err-placed
unfolding list_in
returns-in_err-placed c =
    let own = count_refusal (length c.args.words.now) in
    let k = placed_err _ _ c.in_err-placed.ensures in
    let e = field_fails own _ _ (sym c.in_ok-count.ensures) (k.0 ∙ c.count_refusal.ensures) (number_real _) in (
      ap told_read (handed_on _ _ c.from_residual-in_err-placed.ensures.1) ∙ rw (e, k.1),
      rw e,
    )

pub read_words-requires : goal.read_words-requires
read_words-requires c =
    count_of _ _ (sym (placed_ok _ _ c.in_ok-placed.ensures ∙ c.count_refusal.ensures))

pub returns : goal.returns
unfolding list_in
returns c =
    let own = count_refusal (length c.args.words.now) in
    let e = field_passes own _ _ (sym c.in_ok-count.ensures) (placed_ok _ _ c.in_ok-placed.ensures ∙ c.count_refusal.ensures) refl in
    (rw e c.read_words.ensures.0, rw e c.read_words.ensures.1)
