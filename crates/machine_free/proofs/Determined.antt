-- The contract of each public function determines its answer.
use mathlib.Core.Path.{◌≡◌, refl}
use Rattle.numbers.proofs.Determined.{Determines, one_answer}
use Rattle.std.specs.Prelude.{Option, Some, None, ℕ}
use Rattle.machine_free.specs.Free.{view_free_slot}
use Rattle.machine_free.proofs.lowest_buffer.Kinds as lowest-buffer-kinds
use Rattle.machine_free.proofs.lowest_buffer.Reads as lowest-buffer-reads
use Rattle.machine_free.proofs.lowest_station.Kinds as lowest-station-kinds
use Rattle.machine_free.proofs.lowest_station.Reads as lowest-station-reads
use Rattle.machine_free.proofs.lowest_store.Kinds as lowest-store-kinds
use Rattle.machine_free.proofs.lowest_store.Reads as lowest-store-reads
use Rattle.machine_free.proofs.cell_live.Kinds as cell-live-kinds
use Rattle.machine_free.proofs.cell_live.Reads as cell-live-reads

free_slot_exact : (x y : Option ℕ) → view_free_slot x ≡ view_free_slot y → x ≡ y
free_slot_exact (Some i) (Some j) e = cc
free_slot_exact (Some i) None e = cc
free_slot_exact None (Some j) e = cc
free_slot_exact None None e = refl

pub lowest_buffer_determined : Determines 0 lowest-buffer-kinds.ps lowest-buffer-kinds.r lowest-buffer-reads.Post
lowest_buffer_determined κs a x y s t p q = free_slot_exact x y (one_answer p q)

pub lowest_station_determined : Determines 0 lowest-station-kinds.ps lowest-station-kinds.r lowest-station-reads.Post
lowest_station_determined κs a x y s t p q = free_slot_exact x y (one_answer p q)

pub lowest_store_determined : Determines 0 lowest-store-kinds.ps lowest-store-kinds.r lowest-store-reads.Post
lowest_store_determined κs a x y s t p q = free_slot_exact x y (one_answer p q)

pub cell_live_determined : Determines 0 cell-live-kinds.ps cell-live-kinds.r cell-live-reads.Post
cell_live_determined κs a x y s t = one_answer
