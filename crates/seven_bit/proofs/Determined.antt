-- The contract of each public function determines its answer and what is lent.
use mathlib.Core.Path.{◌≡◌, ap}
use Rattle.numbers.proofs.Determined.{Determines, DeterminesLent, one_answer}
use Rattle.seven_bit.specs.declared.Parsed as code
use Rattle.std.specs.Prelude.{ℕ, Result, Ok, Err}
use Rattle.words.specs.declared.refusal.Refused.{Refused}
use Rattle.words.proofs.Refusals.{number_exact}
use Rattle.seven_bit.specs.SevenBits.{Parsed, accepted, refused}
use Rattle.seven_bit.specs.Told.{told}
use Rattle.seven_bit.proofs.number_size.Kinds as number-size-kinds
use Rattle.seven_bit.proofs.number_size.Reads as number-size-reads
use Rattle.seven_bit.proofs.put_number.Kinds as put-number-kinds
use Rattle.seven_bit.proofs.put_number.Reads as put-number-reads
use Rattle.seven_bit.proofs.number_at.Kinds as number-at-kinds
use Rattle.seven_bit.proofs.number_at.Reads as number-at-reads

-- the first of what is told, a value or a refusal's number, and the place
abbrev value_of : Parsed ℕ → ℕ
value_of (accepted v n) = v
value_of (refused r p) = r

abbrev place_of : Parsed ℕ → ℕ
place_of (accepted v n) = n
place_of (refused r p) = p

-- 01's number and values tell the cases apart
pub told-apart : (x y : Result code.Parsed Refused) → told x ≡ told y → x ≡ y
told-apart (Ok p) (Ok q) e = (λ i. Ok (record { value = value_of (e i); next = place_of (e i) }))
told-apart (Ok p) (Err s) e = cc
told-apart (Err r) (Ok q) e = cc
told-apart (Err r) (Err s) e = (λ i. Err (record { refusal = number_exact r.refusal s.refusal (ap value_of e) i; place = place_of (e i) }))

pub number_at_determined : Determines 1 number-at-kinds.ps number-at-kinds.r number-at-reads.Post
number_at_determined κs a x y s t p q = told-apart x y (one_answer p q)

pub number_size_determined : Determines 0 number-size-kinds.ps number-size-kinds.r number-size-reads.Post
number_size_determined κs a x y s t = one_answer

pub put_number_determined : DeterminesLent 1 put-number-kinds.ps put-number-kinds.r put-number-reads.Post (λ κs s. s.1.0.now)
put_number_determined κs a x y s t p q = (one_answer p.ends q.ends, one_answer p.stored q.stored)
