-- The contract of each public function determines its answer.
use mathlib.Core.Path.{◌≡◌, refl, sym, ap, ◌∙◌}
use Rattle.std.specs.Prelude.{Option, Some, None}
use Rattle.numbers.proofs.Determined.{Determines, one_answer}
use Rattle.theory_machine.specs.Codes as codes
use Rattle.machine_parts.proofs.Exact.{register_exact, buffer_exact, station_exact, store_exact}
use Rattle.machine_slots.specs.declared.code.Step.{Step}
use Rattle.machine_slots.specs.declared.code.Step.TheVariants.{Issue, Arrival, Completion, BufferGrant, StationGrant, Release}
use Rattle.machine_slots.specs.Slots.{view_read}
use Rattle.machine_slots.proofs.code.step_of.Kinds as step-of-kinds
use Rattle.machine_slots.proofs.code.step_of.Reads as step-of-reads
use Rattle.machine_slots.proofs.made.waiting_register.Kinds as waiting-register-kinds
use Rattle.machine_slots.proofs.made.waiting_register.Reads as waiting-register-reads
use Rattle.machine_slots.proofs.made.free_buffer.Kinds as free-buffer-kinds
use Rattle.machine_slots.proofs.made.free_buffer.Reads as free-buffer-reads
use Rattle.machine_slots.proofs.made.full.Kinds as full-kinds
use Rattle.machine_slots.proofs.made.full.Reads as full-reads
use Rattle.machine_slots.proofs.made.free_station.Kinds as free-station-kinds
use Rattle.machine_slots.proofs.made.free_station.Reads as free-station-reads
use Rattle.machine_slots.proofs.made.done.Kinds as done-kinds
use Rattle.machine_slots.proofs.made.done.Reads as done-reads
use Rattle.machine_slots.proofs.made.free_store.Kinds as free-store-kinds
use Rattle.machine_slots.proofs.made.free_store.Reads as free-store-reads
use Rattle.machine_slots.proofs.made.fetching.Kinds as fetching-kinds
use Rattle.machine_slots.proofs.made.fetching.Reads as fetching-reads
use Rattle.machine_slots.proofs.made.holding.Kinds as holding-kinds
use Rattle.machine_slots.proofs.made.holding.Reads as holding-reads
use Rattle.machine_slots.proofs.made.pending.Kinds as pending-kinds
use Rattle.machine_slots.proofs.made.pending.Reads as pending-reads

-- back from a step of the theory
abbrev step_back : codes.Step → Option Step
step_back codes.unknown_code = None
step_back codes.issue = Some Issue
step_back (codes.arrival i) = Some (Arrival i)
step_back (codes.completion i) = Some (Completion i)
step_back (codes.buffer_grant i) = Some (BufferGrant i)
step_back (codes.station_grant i) = Some (StationGrant i)
step_back (codes.release i) = Some (Release i)

step_back_lem : (x : Option Step) → step_back (view_read x) ≡ x
step_back_lem None = refl
step_back_lem (Some Issue) = refl
step_back_lem (Some (Arrival i)) = refl
step_back_lem (Some (Completion i)) = refl
step_back_lem (Some (BufferGrant i)) = refl
step_back_lem (Some (StationGrant i)) = refl
step_back_lem (Some (Release i)) = refl

step_exact : (x y : Option Step) → view_read x ≡ view_read y → x ≡ y
step_exact x y e = sym (step_back_lem x) ∙ ap step_back e ∙ step_back_lem y

pub step_of_determined : Determines 0 step-of-kinds.ps step-of-kinds.r step-of-reads.Post
step_of_determined κs a x y s t p q = step_exact x y (one_answer p.step q.step)

pub waiting_register_determined : Determines 0 waiting-register-kinds.ps waiting-register-kinds.r waiting-register-reads.Post
waiting_register_determined κs a x y s t p q = register_exact x y (one_answer p q)

pub free_buffer_determined : Determines 0 free-buffer-kinds.ps free-buffer-kinds.r free-buffer-reads.Post
free_buffer_determined κs a x y s t p q = buffer_exact x y (one_answer p q)

pub fetching_determined : Determines 0 fetching-kinds.ps fetching-kinds.r fetching-reads.Post
fetching_determined κs a x y s t p q = buffer_exact x y (one_answer p q)

pub full_determined : Determines 0 full-kinds.ps full-kinds.r full-reads.Post
full_determined κs a x y s t p q = buffer_exact x y (one_answer p q)

pub free_station_determined : Determines 0 free-station-kinds.ps free-station-kinds.r free-station-reads.Post
free_station_determined κs a x y s t p q = station_exact x y (one_answer p q)

pub holding_determined : Determines 0 holding-kinds.ps holding-kinds.r holding-reads.Post
holding_determined κs a x y s t p q = station_exact x y (one_answer p q)

pub done_determined : Determines 0 done-kinds.ps done-kinds.r done-reads.Post
done_determined κs a x y s t p q = station_exact x y (one_answer p q)

pub free_store_determined : Determines 0 free-store-kinds.ps free-store-kinds.r free-store-reads.Post
free_store_determined κs a x y s t p q = store_exact x y (one_answer p q)

pub pending_determined : Determines 0 pending-kinds.ps pending-kinds.r pending-reads.Post
pending_determined κs a x y s t p q = store_exact x y (one_answer p q)
