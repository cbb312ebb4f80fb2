use Rattle.std.proofs.Common.{◌<◌}
use Rattle.theory_machine.specs.Tags.{buffer_count, station_count}
use Rattle.machine_parts.proofs.Seen.{map-set}
use Rattle.machine_take.proofs.Stored.{buffer_tagged, station_tagged}
use Rattle.machine_take.proofs.apply.apply.Goals as goal

pub returns-in-BufferGives : goal.returns-in-BufferGives
returns-in-BufferGives c =
    let i = c.in-BufferGives in
    let h : i.b < buffer_count = rw i.is at c.requires in
    rw (i.is, c.grant.ensures, buffer_tagged h c.of_buffer.ensures, map-set, c.free_buffer.ensures)

pub returns-in-StationGives : goal.returns-in-StationGives
returns-in-StationGives c =
    let i = c.in-StationGives in
    let h : i.u < station_count = rw i.is at c.requires in
    rw (i.is, c.grant-in-StationGives.ensures, station_tagged h c.of_station.ensures, map-set, map-set, c.free_station.ensures)
