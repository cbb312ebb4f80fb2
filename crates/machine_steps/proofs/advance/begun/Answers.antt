use Rattle.words.proofs.Refusals.{ok_is}
use Rattle.machine_steps.proofs.Advancing.{begins_so}
use Rattle.machine_steps.proofs.advance.begun.Goals as goal

pub returns : goal.returns
returns c =
    let a = c.args in
    rw (c.is_ok.ensures.value, ok_is c.entry_refusal-outcome.result)
    (begins_so a.m a.words.now a.operands.now a.results c.entry_refusal-outcome.ensures)
