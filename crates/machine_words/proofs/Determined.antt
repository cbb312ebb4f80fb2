-- The contract of each public function determines its answer and what is lent to it.
use mathlib.Core.Path.{refl}
use Rattle.numbers.proofs.Determined.{Determines, DeterminesLent, one_answer}
use Rattle.machine_parts.proofs.Exact.{view_exact}
use Rattle.machine_words.proofs.row.number_or_zero.Kinds as number-or-zero-kinds
use Rattle.machine_words.proofs.row.number_or_zero.Reads as number-or-zero-reads
use Rattle.machine_words.proofs.row.put_number.Kinds as put-number-kinds
use Rattle.machine_words.proofs.row.put_number.Reads as put-number-reads
use Rattle.machine_words.proofs.row.put_words.Kinds as put-words-kinds
use Rattle.machine_words.proofs.row.put_words.Reads as put-words-reads
use Rattle.machine_words.proofs.image.machine_in.Kinds as machine-in-kinds
use Rattle.machine_words.proofs.image.machine_in.Reads as machine-in-reads
use Rattle.machine_words.proofs.spelling.put_machine.Kinds as put-machine-kinds
use Rattle.machine_words.proofs.spelling.put_machine.Reads as put-machine-reads
use Rattle.machine_words.proofs.spelling.put_taken.Kinds as put-taken-kinds
use Rattle.machine_words.proofs.spelling.put_taken.Reads as put-taken-reads

pub number_or_zero_determined : Determines 1 number-or-zero-kinds.ps number-or-zero-kinds.r number-or-zero-reads.Post
number_or_zero_determined κs a x y s t = one_answer

pub machine_in_determined : Determines 1 machine-in-kinds.ps machine-in-kinds.r machine-in-reads.Post
machine_in_determined κs a x y s t p q = view_exact x y (one_answer p q)

-- the lent row
pub put_number_determined : DeterminesLent 1 put-number-kinds.ps put-number-kinds.r put-number-reads.Post (λ κs s. s.0.now)
put_number_determined κs a x y s t p q = (refl, one_answer p q)

pub put_words_determined : DeterminesLent 2 put-words-kinds.ps put-words-kinds.r put-words-reads.Post (λ κs s. s.0.now)
put_words_determined κs a x y s t p q = (refl, one_answer p q)

pub put_machine_determined : DeterminesLent 1 put-machine-kinds.ps put-machine-kinds.r put-machine-reads.Post (λ κs s. s.0.now)
put_machine_determined κs a x y s t p q = (refl, one_answer p q)

pub put_taken_determined : DeterminesLent 1 put-taken-kinds.ps put-taken-kinds.r put-taken-reads.Post (λ κs s. s.0.now)
put_taken_determined κs a x y s t p q = (refl, one_answer p q)
