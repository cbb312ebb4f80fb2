use mathlib.Core.Path.{refl, ap, ◌∙◌}
use mathlib.Core.List.{[], ◌∷◌}
use lib.Seq.{sets}
use borrow.Author.Tests.{le-leb, lt-leb}
use Rattle.list_file.specs.Reading.{ListRead}
use Rattle.wethertide.proofs.Room.{is-short, is-roomy}
use Rattle.wethertide.proofs.lists.wethertide_read_list.Goals as goal

pub returns-then-answer-lt-PLACED : goal.returns-then-answer-lt-PLACED
returns-then-answer-lt-PLACED c = is-short (lt-leb _ _ c.if-answer-lt-PLACED.true) (c.from.ensures, refl, refl)

pub returns-in-Ok : goal.returns-in-Ok
returns-in-Ok c =
    let e = c.in-Ok.ensures in
    is-roomy (le-leb _ _ c.if-answer-lt-PLACED.false) (ap (λ (x : ListRead). x.refusal) e.0, e.1, c.put_words.ensures ∙ ap (λ (x : ListRead). sets c.args.answer.now 0 (x.count ∷ x.place ∷ [])) e.0)

pub returns-in-Err : goal.returns-in-Err
returns-in-Err c =
    let e = c.in-Err.ensures in
    is-roomy (le-leb _ _ c.if-answer-lt-PLACED.false) (c.from-in-Err.ensures ∙ ap (λ (x : ListRead). x.refusal) e.0, e.1, c.put_words-in-Err.ensures ∙ ap (λ (x : ListRead). sets c.args.answer.now 0 (x.count ∷ x.place ∷ [])) e.0)
