use Rattle.std.proofs.Common.{◌≡◌}
use lib.ListN.{drop}
use Rattle.words.specs.Check.{first_bad}
use Rattle.words.proofs.check_list_against.Given as goal

abbrev pub invariant-loop-place : goal.invariant-loop-place
invariant-loop-place l = first_bad l.areas 0 l.words ≡ first_bad l.areas l.place (drop l.place l.words)
