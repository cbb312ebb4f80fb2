-- The contract of the one public function determines its answer and what is lent to it.
use mathlib.Core.Path.{◌≡◌, sym, ap}
use Rattle.numbers.proofs.Determined.{DeterminesLent, one_answer}
use Rattle.std.specs.Prelude.{Result, Ok, Err}
use Rattle.words.specs.declared.refusal.Refused.{Refused}
use Rattle.words.proofs.Refusals.{number_exact, number_real}
use Rattle.operands_file.specs.Reading as theory
use Rattle.operands_file.specs.declared.OperandsRead.{OperandsRead}
use Rattle.operands_file.specs.Answers.{told_read}
use Rattle.operands_file.proofs.read_operands.Kinds as read-operands-kinds
use Rattle.operands_file.proofs.read_operands.Reads as read-operands-reads

-- the answers told apart by what they tell
read_apart : (x y : Result OperandsRead Refused) → told_read x ≡ told_read y → x ≡ y
read_apart (Ok r) (Ok s) e = λ i. Ok (record { count = (e i).count; place = (e i).place })
read_apart (Ok r) (Err s) e = absurd (number_real s.refusal (sym (ap (λ (x : theory.OperandsRead). x.refusal) e)))
read_apart (Err r) (Ok s) e = absurd (number_real r.refusal (ap (λ (x : theory.OperandsRead). x.refusal) e))
read_apart (Err r) (Err s) e =
    λ i. Err (record { refusal = number_exact r.refusal s.refusal (ap (λ (x : theory.OperandsRead). x.refusal) e) i; place = (e i).place })

pub read_operands_determined : DeterminesLent 2 read-operands-kinds.ps read-operands-kinds.r read-operands-reads.Post (λ κs s. s.1.0.now)
read_operands_determined κs a x y s t = λ p q. (read_apart x y (one_answer p.0 q.0), one_answer p.1 q.1)
