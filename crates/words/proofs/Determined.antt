-- The contract of each public function determines its answer.
use denote.RattleType.{RattleType}
use denote.Param.Laws.{Laws}
use Rattle.numbers.proofs.Determined.{Determines, one_answer}
use Rattle.words.proofs.Refusals.{answer_exact, verdict_exact}
use Rattle.words.proofs.check_list.Kinds as check-list-kinds
use Rattle.words.proofs.check_list.Reads as check-list-reads
use Rattle.words.proofs.check_list_against.Kinds as check-list-against-kinds
use Rattle.words.proofs.check_list_against.Reads as check-list-against-reads
use Rattle.words.proofs.Areas.of.Kinds as of-kinds
use Rattle.words.proofs.Areas.of.Reads as of-reads
use Rattle.words.proofs.refusal.number_of.Kinds as number-of-kinds
use Rattle.words.proofs.refusal.number_of.Reads as number-of-reads
use Rattle.words.proofs.refusal.placed.Kinds as placed-kinds
use Rattle.words.proofs.refusal.placed.Reads as placed-reads
use Rattle.words.proofs.refusal.Refusal.at.Kinds as at-kinds
use Rattle.words.proofs.refusal.Refusal.at.Reads as at-reads
use Rattle.words.proofs.form_of.Kinds as form-of-kinds
use Rattle.words.proofs.form_of.Reads as form-of-reads
use Rattle.words.proofs.operand_of.Kinds as operand-of-kinds
use Rattle.words.proofs.operand_of.Reads as operand-of-reads
use Rattle.words.proofs.operand_refusal.Kinds as operand-refusal-kinds
use Rattle.words.proofs.operand_refusal.Reads as operand-refusal-reads
use Rattle.words.proofs.operation_of.Kinds as operation-of-kinds
use Rattle.words.proofs.operation_of.Reads as operation-of-reads
use Rattle.words.proofs.operation_refusal.Kinds as operation-refusal-kinds
use Rattle.words.proofs.operation_refusal.Reads as operation-refusal-reads
use Rattle.words.proofs.r1_of.Kinds as r1-of-kinds
use Rattle.words.proofs.r1_of.Reads as r1-of-reads
use Rattle.words.proofs.register_refusal.Kinds as register-refusal-kinds
use Rattle.words.proofs.register_refusal.Reads as register-refusal-reads
use Rattle.words.proofs.word_refusal.Kinds as word-refusal-kinds
use Rattle.words.proofs.word_refusal.Reads as word-refusal-reads

pub operation_of_determined : Determines 0 operation-of-kinds.ps operation-of-kinds.r operation-of-reads.Post
operation_of_determined κs a x y s t = one_answer

pub r1_of_determined : Determines 0 r1-of-kinds.ps r1-of-kinds.r r1-of-reads.Post
r1_of_determined κs a x y s t = one_answer

pub operand_of_determined : Determines 0 operand-of-kinds.ps operand-of-kinds.r operand-of-reads.Post
operand_of_determined κs a x y s t = one_answer

pub form_of_determined : Determines 0 form-of-kinds.ps form-of-kinds.r form-of-reads.Post
form_of_determined κs a x y s t = one_answer

pub operation_refusal_determined : Determines 0 operation-refusal-kinds.ps operation-refusal-kinds.r operation-refusal-reads.Post
operation_refusal_determined κs a x y s t = λ p q. answer_exact x y (one_answer p q)

pub register_refusal_determined : Determines 0 register-refusal-kinds.ps register-refusal-kinds.r register-refusal-reads.Post
register_refusal_determined κs a x y s t = λ p q. answer_exact x y (one_answer p q)

pub operand_refusal_determined : Determines 0 operand-refusal-kinds.ps operand-refusal-kinds.r operand-refusal-reads.Post
operand_refusal_determined κs a x y s t = λ p q. answer_exact x y (one_answer p q)

pub word_refusal_determined : Determines 0 word-refusal-kinds.ps word-refusal-kinds.r word-refusal-reads.Post
word_refusal_determined κs a x y s t = λ p q. answer_exact x y (one_answer p q)

pub check_list_against_determined : Determines 1 check-list-against-kinds.ps check-list-against-kinds.r check-list-against-reads.Post
check_list_against_determined κs a x y s t = λ p q. verdict_exact x y (one_answer p q)

pub check_list_determined : Determines 1 check-list-kinds.ps check-list-kinds.r check-list-reads.Post
check_list_determined κs a x y s t = λ p q. verdict_exact x y (one_answer p q)

pub refusal_at_determined : Determines 0 at-kinds.ps at-kinds.r at-reads.Post
refusal_at_determined κs a x y s t = one_answer

pub placed_determined : Determines 0 placed-kinds.ps placed-kinds.r placed-reads.Post
placed_determined κs a x y s t = one_answer

pub areas_of_determined : Determines 2 of-kinds.ps of-kinds.r of-reads.Post
areas_of_determined κs a x y s t = one_answer

-- over answers of every type
pub number_of_determined : (A : RattleType) (laws : Laws A) → Determines 2 (number-of-kinds.ps A laws) (number-of-kinds.r A laws) (number-of-reads.Post A laws)
number_of_determined A laws κs a x y s t = one_answer
