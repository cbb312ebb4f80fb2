use Rattle.std.proofs.Common.{sym, ap, ◌∙◌, arith}
use Rattle.words.specs.Instructions.{form_of}
use Rattle.theory_machine.specs.Instruction.{index_of}
use Rattle.machine_take.proofs.Issued.{well_formed, issue_goes}
use Rattle.machine_take.proofs.issue.next_issue.Goals as goal

pub slots_for-requires : goal.slots_for-requires
slots_for-requires c = well_formed (record {
  in_list = c.in-Some.ensures.lookup.3.0;
  is = c.in-Some.ensures.lookup.4 (omega arith) 0;
  accepted = sym c.in_ok-word_refusal.ensures;
  r1 = c.index_of-r.ensures ∙ ap index_of c.r1_of.ensures;
  rest = c.operand_of.ensures;
  form = c.form_of-form.ensures ∙ ap form_of c.operation_of.ensures;
})

pub returns : goal.returns
returns c = issue_goes c.args.m.now (record {
  in_list = c.in-Some.ensures.lookup.3.0;
  is = c.in-Some.ensures.lookup.4 (omega arith) 0;
  accepted = sym c.in_ok-word_refusal.ensures;
  r1 = c.index_of-r.ensures ∙ ap index_of c.r1_of.ensures;
  rest = c.operand_of.ensures;
  form = c.form_of-form.ensures ∙ ap form_of c.operation_of.ensures;
}) (omega arith) c.slots_for.result c.slots_for.ensures
