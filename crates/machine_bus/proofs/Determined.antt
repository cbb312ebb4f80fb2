-- The contract of each public function determines its answer.
use Rattle.numbers.proofs.Determined.{Determines, DeterminesLent, one_answer}
use Rattle.machine_bus.proofs.OperandWaits.waits.Kinds as operand-waits-kinds
use Rattle.machine_bus.proofs.OperandWaits.waits.Reads as operand-waits-reads
use Rattle.machine_bus.proofs.OperandWaits.given.Kinds as given-operand-kinds
use Rattle.machine_bus.proofs.OperandWaits.given.Reads as given-operand-reads
use Rattle.machine_bus.proofs.RegisterWaits.waits.Kinds as register-waits-kinds
use Rattle.machine_bus.proofs.RegisterWaits.waits.Reads as register-waits-reads
use Rattle.machine_bus.proofs.RegisterWaits.given.Kinds as given-register-kinds
use Rattle.machine_bus.proofs.RegisterWaits.given.Reads as given-register-reads
use Rattle.machine_bus.proofs.StationWaits.waits.Kinds as station-waits-kinds
use Rattle.machine_bus.proofs.StationWaits.waits.Reads as station-waits-reads
use Rattle.machine_bus.proofs.StationWaits.given.Kinds as given-station-kinds
use Rattle.machine_bus.proofs.StationWaits.given.Reads as given-station-reads
use Rattle.machine_bus.proofs.StoreBufferWaits.waits.Kinds as store-waits-kinds
use Rattle.machine_bus.proofs.StoreBufferWaits.waits.Reads as store-waits-reads
use Rattle.machine_bus.proofs.StoreBufferWaits.given.Kinds as given-store-kinds
use Rattle.machine_bus.proofs.StoreBufferWaits.given.Reads as given-store-reads
use Rattle.machine_bus.proofs.give.Kinds as give-kinds
use Rattle.machine_bus.proofs.give.Reads as give-reads
use mathlib.Core.Path.{refl}
use denote.RattleType.{RattleType}
use denote.Param.Laws.{Laws, IsCopy}
use mir.Syntax.{Dict}
use Rattle.std.specs.declared.clone.Clone as Clone
use Rattle.machine_bus.specs.declared.Waits as Waits

pub operand_waits_determined : Determines 1 operand-waits-kinds.ps operand-waits-kinds.r operand-waits-reads.Post
operand_waits_determined κs a x y s t = one_answer

pub given_operand_determined : Determines 1 given-operand-kinds.ps given-operand-kinds.r given-operand-reads.Post
given_operand_determined κs a x y s t = one_answer

pub register_waits_determined : Determines 1 register-waits-kinds.ps register-waits-kinds.r register-waits-reads.Post
register_waits_determined κs a x y s t = one_answer

pub given_register_determined : Determines 1 given-register-kinds.ps given-register-kinds.r given-register-reads.Post
given_register_determined κs a x y s t = one_answer

pub station_waits_determined : Determines 1 station-waits-kinds.ps station-waits-kinds.r station-waits-reads.Post
station_waits_determined κs a x y s t = one_answer

pub given_station_determined : Determines 1 given-station-kinds.ps given-station-kinds.r given-station-reads.Post
given_station_determined κs a x y s t = one_answer

pub store_waits_determined : Determines 1 store-waits-kinds.ps store-waits-kinds.r store-waits-reads.Post
store_waits_determined κs a x y s t = one_answer

pub given_store_determined : Determines 1 given-store-kinds.ps given-store-kinds.r given-store-reads.Post
given_store_determined κs a x y s t = one_answer

-- of any kind of slot
module _ (T : RattleType) (laws : Laws T) (copy : IsCopy T) (waits : Waits.Ghosts T.Denot) (waits-code : Dict) (clone : Clone.Ghosts T.Denot) (clone-code : Dict) where
  pub give_determined : DeterminesLent 2 (give-kinds.ps T laws copy) (give-kinds.r T laws copy) (give-reads.Post T laws copy waits waits-code clone clone-code) (λ κs s. s.0.now)
  give_determined κs a x y s t p q = (refl, one_answer p q)
