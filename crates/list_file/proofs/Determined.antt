-- The contract of each public function determines its answer and what is lent to it.
use mathlib.Core.Path.{◌≡◌, sym, ap}
use Rattle.numbers.proofs.Determined.{DeterminesLent, one_answer}
use Rattle.std.specs.Prelude.{Result, Ok, Err}
use Rattle.words.specs.declared.refusal.Refused.{Refused}
use Rattle.words.proofs.Refusals.{number_exact, number_real}
use Rattle.list_file.specs.Reading as theory
use Rattle.list_file.specs.Writing as written
use Rattle.list_file.specs.declared.ListRead.{ListRead}
use Rattle.list_file.specs.declared.Written.{Written}
use Rattle.list_file.specs.Answers.{told_read, told_written}
use Rattle.list_file.proofs.reader.read.Kinds as read-kinds
use Rattle.list_file.proofs.reader.read.Reads as read-reads
use Rattle.list_file.proofs.writer.write.Kinds as write-kinds
use Rattle.list_file.proofs.writer.write.Reads as write-reads

-- the two answers told apart by what they tell
read_apart : (x y : Result ListRead Refused) → told_read x ≡ told_read y → x ≡ y
read_apart (Ok r) (Ok s) e = λ i. Ok (record { count = (e i).count; place = (e i).place })
read_apart (Ok r) (Err s) e = absurd (number_real s.refusal (sym (ap (λ (x : theory.ListRead). x.refusal) e)))
read_apart (Err r) (Ok s) e = absurd (number_real r.refusal (ap (λ (x : theory.ListRead). x.refusal) e))
read_apart (Err r) (Err s) e =
    λ i. Err (record { refusal = number_exact r.refusal s.refusal (ap (λ (x : theory.ListRead). x.refusal) e) i; place = (e i).place })

written_apart : (x y : Result Written Refused) → told_written x ≡ told_written y → x ≡ y
written_apart (Ok r) (Ok s) e = λ i. Ok (record { length = (e i).length; place = (e i).place })
written_apart (Ok r) (Err s) e = absurd (number_real s.refusal (sym (ap (λ (x : written.Written). x.refusal) e)))
written_apart (Err r) (Ok s) e = absurd (number_real r.refusal (ap (λ (x : written.Written). x.refusal) e))
written_apart (Err r) (Err s) e =
    λ i. Err (record { refusal = number_exact r.refusal s.refusal (ap (λ (x : written.Written). x.refusal) e) i; place = (e i).place })

pub read_determined : DeterminesLent 2 read-kinds.ps read-kinds.r read-reads.Post (λ κs s. s.1.0.now)
read_determined κs a x y s t = λ p q. (read_apart x y (one_answer p.0 q.0), one_answer p.1 q.1)

pub write_determined : DeterminesLent 2 write-kinds.ps write-kinds.r write-reads.Post (λ κs s. s.1.0.now)
write_determined κs a x y s t = λ p q. (written_apart x y (one_answer p.0 q.0), one_answer p.1 q.1)
