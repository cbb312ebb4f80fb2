-- The contract of each public function determines its answer and what is lent to it.
use mathlib.Core.Path.{◌≡◌, ap}
use lib.Ieee.{Float}
use Rattle.numbers.proofs.Determined.{Determines, one_answer}
use Rattle.words.proofs.Refusals.{answer_exact}
use Rattle.theory_machine.specs.Entries as theory
use Rattle.machine_parts.specs.declared.start.FreshMachine.{FreshMachine}
use Rattle.machine_parts.specs.Answers.{view_fresh}
use Rattle.machine_parts.proofs.Exact.{view_exact}
use Rattle.machine_parts.proofs.start.fresh.Kinds as fresh-kinds
use Rattle.machine_parts.proofs.start.fresh.Reads as fresh-reads
use Rattle.machine_parts.proofs.Tag.suits.Kinds as suits-kinds
use Rattle.machine_parts.proofs.Tag.suits.Reads as suits-reads
use Rattle.machine_parts.proofs.Tag.of_buffer.Kinds as of-buffer-kinds
use Rattle.machine_parts.proofs.Tag.of_buffer.Reads as of-buffer-reads
use Rattle.machine_parts.proofs.Tag.of_station.Kinds as of-station-kinds
use Rattle.machine_parts.proofs.Tag.of_station.Reads as of-station-reads
use Rattle.machine_parts.proofs.Register.index_of.Kinds as index-of-kinds
use Rattle.machine_parts.proofs.Register.index_of.Reads as index-of-reads
use Rattle.machine_parts.specs.declared.Tag.{Tag}
use Prim.Native.Nat.{ℕ}

fresh_exact : (x y : FreshMachine) → view_fresh x ≡ view_fresh y → x ≡ y
fresh_exact x y e =
    let m = view_exact x.machine y.machine (ap (λ (f : theory.Fresh Float). f.machine) e) in
    let r = answer_exact x.outcome y.outcome (ap (λ (f : theory.Fresh Float). f.refusal) e) in
    λ i. record { machine = m i; outcome = r i }

pub fresh_determined : Determines 3 fresh-kinds.ps fresh-kinds.r fresh-reads.Post
fresh_determined κs a x y s t p q = fresh_exact x y (one_answer p q)

pub suits_determined : Determines 0 suits-kinds.ps suits-kinds.r suits-reads.Post
suits_determined κs a x y s t = one_answer

pub index_of_determined : Determines 0 index-of-kinds.ps index-of-kinds.r index-of-reads.Post
index_of_determined κs a x y s t = one_answer

tag_exact : (x y : Tag) → x.0 ≡ y.0 → x ≡ y
tag_exact x y e = ap (λ (t : ℕ). record { 0 = t }) e

pub of_buffer_determined : Determines 0 of-buffer-kinds.ps of-buffer-kinds.r of-buffer-reads.Post
of_buffer_determined κs a x y s t p q = tag_exact x y (one_answer p q)

pub of_station_determined : Determines 0 of-station-kinds.ps of-station-kinds.r of-station-reads.Post
of_station_determined κs a x y s t p q = tag_exact x y (one_answer p q)
