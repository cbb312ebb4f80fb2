-- The table of given machines, of any kind of number, by computing.
use mathlib.Core.Path.{refl}
use Rattle.words.specs.Instructions.{is_register, is_cell}
use Rattle.words.specs.Check.{operation_refusal, register_refusal, cell_refusal, word_refusal}
use Rattle.theory_machine.specs.Tags.{slot_of}
use Rattle.theory_machine.specs.Instruction.{decode}
use Rattle.theory_machine.specs.Machine.{Kind}
use Rattle.theory_machine.specs.GoodOrder.{giver, good_order}
use Rattle.theory_machine.specs.Codes.{step_of}
use Rattle.theory_machine.specs.Steps.{perform, step}
use Rattle.theory_machine.specs.GivenMachines.{GivenClaim, IssueClaim}

pub given_claim_lem : (K : Kind) (v : K.Num) → GivenClaim K v
unfolding step good_order perform step_of decode giver slot_of word_refusal operation_refusal register_refusal cell_refusal is_register is_cell
given_claim_lem K v = refl

pub issue_claim_lem : (K : Kind) (v : K.Num) → IssueClaim K v
unfolding step good_order perform step_of decode giver slot_of word_refusal operation_refusal register_refusal cell_refusal is_register is_cell
issue_claim_lem K v = refl
