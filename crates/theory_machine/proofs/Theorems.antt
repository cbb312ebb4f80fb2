-- What is proved, one line a theorem: the statements stand in specs/Statement.antt, specs/Example.antt and specs/GivenMachines.antt.
use Rattle.theory_machine.specs.Machine.{Kind, Lent}
use Rattle.theory_machine.specs.Statement.{GoodOrderKept, RefusedChangesNothing, StepIsPerform, Progress, LowestStepIsLowest, StepLowers, FreshCount, RefusedEntries, OrderTheorem, LowestDrainsTheorem}
use Rattle.theory_machine.specs.Example.{ExampleTheorem}
use Rattle.theory_machine.specs.GivenMachines.{GivenClaim, IssueClaim}
use Rattle.theory_machine.proofs.Order.{good_order_kept_lem}
use Rattle.theory_machine.proofs.Moves.{refused_changes_nothing_lem}
use Rattle.theory_machine.proofs.Entries.{step_is, refused_entries_lem, progress_theorem, lowest_theorem, step-lowers, fresh-count}
use Rattle.theory_machine.proofs.OrderTheorem.{order_theorem_lem}
use Rattle.theory_machine.proofs.Corollaries.{lowest-drains, example_theorem_lem}
use Rattle.theory_machine.proofs.GivenMachines.{given_claim_lem, issue_claim_lem}

module _ (K : Kind) (L : Lent K.Num) where
  pub good_order_kept : GoodOrderKept K L
  good_order_kept = good_order_kept_lem K L

  pub refused_changes_nothing : RefusedChangesNothing K L
  refused_changes_nothing = refused_changes_nothing_lem K L

  pub step_is_perform : StepIsPerform K L
  step_is_perform = step_is K L

  pub progress : Progress K L
  progress z m S o d = progress_theorem K L z m S o d

  pub lowest_step_is_lowest : LowestStepIsLowest K L
  lowest_step_is_lowest z m S o = lowest_theorem K L z m S o

  pub step_lowers : StepLowers K L
  step_lowers z m S code a = step-lowers K L z m S code a

  pub fresh_count : FreshCount K L
  fresh_count z starts four = fresh-count K L z starts four

  pub refused_entries : RefusedEntries K L
  refused_entries = refused_entries_lem K L

pub order_theorem : OrderTheorem
order_theorem = order_theorem_lem

pub lowest_drains : LowestDrainsTheorem
lowest_drains = lowest-drains

module _ (K : Kind) (v w : K.Num) where
  pub example_theorem : ExampleTheorem K v w
  example_theorem = example_theorem_lem K v w

  pub given_claim : GivenClaim K v
  given_claim = given_claim_lem K v

  pub issue_claim : IssueClaim K v
  issue_claim = issue_claim_lem K v
