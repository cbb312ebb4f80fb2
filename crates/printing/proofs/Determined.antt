-- The contract of each public function determines its answer and what is lent to it.
use mathlib.Core.Path.{◌≡◌, sym, ◌∙◌}
use mathlib.Core.List.{List}
use Prim.Native.Nat.{ℕ}
use Rattle.numbers.proofs.Determined.{DeterminesLent}
use Rattle.printing.specs.Put.{PutIfRoom}
use Rattle.printing.proofs.put.put_text.Kinds as put-text-kinds
use Rattle.printing.proofs.put.put_text.Reads as put-text-reads
use Rattle.printing.proofs.put.put_decimal.Kinds as put-decimal-kinds
use Rattle.printing.proofs.put.put_decimal.Reads as put-decimal-reads
use Rattle.printing.proofs.put.put_pattern.Kinds as put-pattern-kinds
use Rattle.printing.proofs.put.put_pattern.Reads as put-pattern-reads
use Rattle.printing.proofs.lines.put_answer.Kinds as put-answer-kinds
use Rattle.printing.proofs.lines.put_answer.Reads as put-answer-reads
use Rattle.printing.proofs.lines.put_count.Kinds as put-count-kinds
use Rattle.printing.proofs.lines.put_count.Reads as put-count-reads
use Rattle.printing.proofs.stop.put_line.Kinds as put-line-kinds
use Rattle.printing.proofs.stop.put_line.Reads as put-line-reads

one_put : {limit : ℕ} {before b c : List ℕ} {at i j : ℕ} {text : List ℕ} → PutIfRoom limit before b at i text → PutIfRoom limit before c at j text
    → (i ≡ j) × (b ≡ c)
one_put p q = (p.ends ∙ sym q.ends, p.laid ∙ sym q.laid)

pub put_text_determined : DeterminesLent 2 put-text-kinds.ps put-text-kinds.r put-text-reads.Post (λ κs s. s.0.now)
put_text_determined κs a x y s t = one_put

pub put_decimal_determined : DeterminesLent 1 put-decimal-kinds.ps put-decimal-kinds.r put-decimal-reads.Post (λ κs s. s.0.now)
put_decimal_determined κs a x y s t = one_put

pub put_pattern_determined : DeterminesLent 1 put-pattern-kinds.ps put-pattern-kinds.r put-pattern-reads.Post (λ κs s. s.0.now)
put_pattern_determined κs a x y s t = one_put

pub put_answer_determined : DeterminesLent 1 put-answer-kinds.ps put-answer-kinds.r put-answer-reads.Post (λ κs s. s.0.now)
put_answer_determined κs a x y s t = one_put

pub put_count_determined : DeterminesLent 2 put-count-kinds.ps put-count-kinds.r put-count-reads.Post (λ κs s. s.0.now)
put_count_determined κs a x y s t = one_put

pub put_line_determined : DeterminesLent 2 put-line-kinds.ps put-line-kinds.r put-line-reads.Post (λ κs s. s.0.now)
put_line_determined κs a x y s t = one_put
