-- The contract of each exported function determines its answer and what is lent to it.
use mathlib.Core.Path.{◌≡◌}
use mathlib.Core.List.{List}
use Prim.Native.Nat.{ℕ}
use lib.Ieee.{Float}
use Rattle.numbers.proofs.Determined.{Determines, DeterminesLent, one_answer, both_answers}
use Rattle.wethertide.proofs.Room.{by_room}
use Rattle.wethertide.proofs.lists.wethertide_read_list.Kinds as read-list-kinds
use Rattle.wethertide.proofs.lists.wethertide_read_list.Reads as read-list-reads
use Rattle.wethertide.proofs.lists.wethertide_write_list.Kinds as write-list-kinds
use Rattle.wethertide.proofs.lists.wethertide_write_list.Reads as write-list-reads
use Rattle.wethertide.proofs.machines.wethertide_fresh.Kinds as fresh-kinds
use Rattle.wethertide.proofs.machines.wethertide_fresh.Reads as fresh-reads
use Rattle.wethertide.proofs.machines.wethertide_step.Kinds as step-kinds
use Rattle.wethertide.proofs.machines.wethertide_step.Reads as step-reads
use Rattle.wethertide.proofs.machines.wethertide_good_order.Kinds as good-order-kinds
use Rattle.wethertide.proofs.machines.wethertide_good_order.Reads as good-order-reads
use Rattle.wethertide.proofs.machines.wethertide_drained.Kinds as drained-kinds
use Rattle.wethertide.proofs.machines.wethertide_drained.Reads as drained-reads
use Rattle.wethertide.proofs.machines.wethertide_steps_left.Kinds as steps-left-kinds
use Rattle.wethertide.proofs.machines.wethertide_steps_left.Reads as steps-left-reads
use Rattle.wethertide.proofs.machines.wethertide_lowest_step.Kinds as lowest-step-kinds
use Rattle.wethertide.proofs.machines.wethertide_lowest_step.Reads as lowest-step-reads
use Rattle.wethertide.proofs.machines.wethertide_one_at_a_time.Kinds as one-at-a-time-kinds
use Rattle.wethertide.proofs.machines.wethertide_one_at_a_time.Reads as one-at-a-time-reads
use Rattle.wethertide.proofs.run.wethertide_run.Kinds as run-kinds
use Rattle.wethertide.proofs.run.wethertide_run.Reads as run-reads

-- two rows that are both the definition's
both : {A B : Type 0} {x y z : A} {u v w : B} → (x ≡ z) × (u ≡ w) → (y ≡ z) × (v ≡ w) → ◌≡◌ {A = A × B} (x, u) (y, v)
both p q = let e = both_answers p q in λ i. (e.0 i, e.1 i)

three_answers : {A B C : Type 0} {x y z : A} {u v w : B} {k l m : C} → (x ≡ z) × (u ≡ w) × (k ≡ m) → (y ≡ z) × (v ≡ w) × (l ≡ m)
    → (x ≡ y) × (◌≡◌ {A = B × C} (u, k) (v, l))
three_answers p q = (one_answer p.0 q.0, both (p.1, p.2) (q.1, q.2))

four_answers : {A B C D : Type 0} {x y z : A} {u v w : B} {k l m : C} {f g h : D} → (x ≡ z) × (u ≡ w) × (k ≡ m) × (f ≡ h) → (y ≡ z) × (v ≡ w) × (l ≡ m) × (g ≡ h)
    → (x ≡ y) × (◌≡◌ {A = B × (C × D)} (u, (k, f)) (v, (l, g)))
four_answers p q =
    let e = one_answer p.1 q.1 in
    let d = both (p.2, p.3) (q.2, q.3) in
    (one_answer p.0 q.0, λ i. (e i, d i))

five_answers : {A B C D E : Type 0} {x y z : A} {u v w : B} {k l m : C} {f g h : D} {o r s : E}
    → (x ≡ z) × (u ≡ w) × (k ≡ m) × (f ≡ h) × (o ≡ s) → (y ≡ z) × (v ≡ w) × (l ≡ m) × (g ≡ h) × (r ≡ s)
    → (x ≡ y) × (◌≡◌ {A = (B × C) × (D × E)} ((u, k), (f, o)) ((v, l), (g, r)))
five_answers p q =
    let b = both (p.1, p.2) (q.1, q.2) in
    let d = both (p.3, p.4) (q.3, q.4) in
    (one_answer p.0 q.0, λ i. (b i, d i))

pub good_order_determined : Determines 4 good-order-kinds.ps good-order-kinds.r good-order-reads.Post
good_order_determined κs a x y s t = one_answer

pub drained_determined : Determines 2 drained-kinds.ps drained-kinds.r drained-reads.Post
drained_determined κs a x y s t = one_answer

-- the words, and the row of answers
pub read_list_determined : DeterminesLent 3 read-list-kinds.ps read-list-kinds.r read-list-reads.Post {B = List ℕ × List ℕ} (λ κs s. (s.1.0.now, s.1.1.0.now))
read_list_determined κs a x y s t = by_room three_answers three_answers

-- the bytes, and the row of answers
pub write_list_determined : DeterminesLent 3 write-list-kinds.ps write-list-kinds.r write-list-reads.Post {B = List ℕ × List ℕ} (λ κs s. (s.1.0.now, s.1.1.0.now))
write_list_determined κs a x y s t = by_room three_answers three_answers

-- the machine's words
pub fresh_determined : DeterminesLent 5 fresh-kinds.ps fresh-kinds.r fresh-reads.Post (λ κs s. s.1.1.1.1.0.now)
fresh_determined κs a x y s t = by_room both_answers both_answers

-- the row of answers
pub steps_left_determined : DeterminesLent 5 steps-left-kinds.ps steps-left-kinds.r steps-left-reads.Post (λ κs s. s.1.1.1.1.0.now)
steps_left_determined κs a x y s t = by_room both_answers both_answers

pub lowest_step_determined : DeterminesLent 5 lowest-step-kinds.ps lowest-step-kinds.r lowest-step-reads.Post (λ κs s. s.1.1.1.1.0.now)
lowest_step_determined κs a x y s t = by_room both_answers both_answers

-- the result cells, and the registers
pub one_at_a_time_determined : DeterminesLent 4 one-at-a-time-kinds.ps one-at-a-time-kinds.r one-at-a-time-reads.Post {B = List Float × List Float} (λ κs s. (s.1.1.0.now, s.1.1.1.0.now))
one_at_a_time_determined κs a x y s t = by_room three_answers three_answers

-- the machine's words, the result cells and the released row
pub step_determined : DeterminesLent 5 step-kinds.ps step-kinds.r step-reads.Post {B = List ℕ × (List Float × List ℕ)} (λ κs s. (s.0.now, (s.1.1.1.0.now, s.1.1.1.1.1.0.now)))
step_determined κs a x y s t =
    by_room
    (λ p q. four_answers (p.answered, p.machine, p.after, p.told) (q.answered, q.machine, q.after, q.told)) four_answers

-- the machine's words, the result cells, the log and the row of answers
pub run_determined : DeterminesLent 7 run-kinds.ps run-kinds.r run-reads.Post {B = (List ℕ × List Float) × (List ℕ × List ℕ)} (λ κs s. ((s.0.now, s.1.1.1.0.now), (s.1.1.1.1.1.0.now, s.1.1.1.1.1.1.0.now)))
run_determined κs a x y s t =
    by_room
    (λ p q. five_answers (p.answered, p.machine, p.after, p.logged, p.told) (q.answered, q.machine, q.after, q.logged, q.told)) five_answers
