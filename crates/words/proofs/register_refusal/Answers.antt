use mathlib.Core.Path.{sym, ◌∙◌}
use mathlib.Core.Bool.{true≢false}
use Rattle.words.specs.Check.{register_refusal}
use Rattle.words.proofs.Registers.{is-register, no_register}
use Rattle.words.proofs.register_refusal.Goals as goal
use Rattle.words.proofs.register_refusal.Goals.{in-0, in_default}

pub returns-then-matches : goal.returns-then-matches
unfolding register_refusal
returns-then-matches c =
    elim c.match-matches.branch [
      | in-0 w ↦ rw (is-register _ w.in-0.is)
      | in_default w ↦ absurd (true≢false (sym c.if-matches.true ∙ w.matches-is))
    ]

pub returns-else-matches : goal.returns-else-matches
unfolding register_refusal
returns-else-matches c =
    elim c.match-matches.branch [
      | in-0 w ↦ absurd (true≢false (sym w.matches-is ∙ c.if-matches.false))
      | in_default w ↦ rw (no_register _ w.in_default.in_default-own.rest.1)
    ]
