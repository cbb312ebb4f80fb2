-- The contract of each public function determines its answer.
use Rattle.numbers.proofs.Determined.{Determines, one_answer}
use Rattle.words.proofs.Refusals.{answer_exact}
use Rattle.good_order.proofs.entry_refusal.Kinds as entry-refusal-kinds
use Rattle.good_order.proofs.entry_refusal.Reads as entry-refusal-reads
use Rattle.good_order.proofs.good_order.Kinds as good-order-kinds
use Rattle.good_order.proofs.good_order.Reads as good-order-reads
use Rattle.good_order.proofs.in_good_order.Kinds as in-good-order-kinds
use Rattle.good_order.proofs.in_good_order.Reads as in-good-order-reads

pub good_order_determined : Determines 3 good-order-kinds.ps good-order-kinds.r good-order-reads.Post
good_order_determined κs a x y s t = one_answer

pub in_good_order_determined : Determines 1 in-good-order-kinds.ps in-good-order-kinds.r in-good-order-reads.Post
in_good_order_determined κs a x y s t = one_answer

pub entry_refusal_determined : Determines 1 entry-refusal-kinds.ps entry-refusal-kinds.r entry-refusal-reads.Post
entry_refusal_determined κs a x y s t = λ p q. answer_exact x y (one_answer p q)
