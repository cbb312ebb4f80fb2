use mathlib.Core.Path.{ap}
use lib.Ieee.{nan}
use lib.ListN.{replicate}
use borrow.Author.Rules.{rules}
use Rattle.theory_machine.specs.Tags.{buffer_count, station_count, store_count}
use Rattle.theory_machine.specs.Machine.{num, free_buffer, free_station, free_store, standing}
use Rattle.machine_parts.specs.View.{view_register}
use Rattle.machine_parts.specs.declared.Operand.TheVariants.{Number}
use Rattle.machine_parts.proofs.Four.{map_of_four}
use Rattle.machine_parts.proofs.start.empty_machine.Goals as goal

pub returns : goal.returns
returns c =
    let m = c.map.ensures.items in
    ap (λ rs. standing 0 rs (replicate buffer_count free_buffer) (replicate station_count free_station) (replicate store_count free_store))
    (map_of_four num view_register nan (record { operand = Number nan }) c.args.numbers c.map.result (search rules) m.long
    (λ i h. let k = m.at i nan (record { operand = Number nan }) h in search rules))
