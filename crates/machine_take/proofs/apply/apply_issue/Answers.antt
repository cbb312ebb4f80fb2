use Rattle.std.proofs.Common.{refl, rules, add-one}
use Rattle.machine_parts.proofs.Seen.{map-set}
use Rattle.machine_take.specs.Changes.{InRows}
use Rattle.machine_take.specs.declared.issue.Issue.TheVariants.{TakesCell, TakesRegister}
use Rattle.machine_take.proofs.Stored.{register-seen, buffer_tagged, station_tagged}
use Rattle.machine_take.proofs.apply.apply_issue.Goals as goal

pub returns-in-TakesCell : goal.returns-in-TakesCell
returns-in-TakesCell c =
    let i = c.in-TakesCell in
    let h : InRows (TakesCell i.o i.r i.cell i.b i.u) = rw i.is at c.requires.slots in
    rw (
      i.is,
      map-set,
      map-set,
      map-set,
      c.waiting_register-in-TakesCell.ensures,
      c.fetching-in-TakesCell.ensures,
      c.holding.ensures,
      c.waiting_register-source.ensures,
      buffer_tagged h.1 c.of_buffer-in-TakesCell.ensures,
      station_tagged h.2 c.of_station.ensures,
      register-seen c.args.m.now.registers i.r (search rules) h.0,
      add-one,
    )

pub returns-in-TakesRegister : goal.returns-in-TakesRegister
returns-in-TakesRegister c =
    let i = c.in-TakesRegister in
    let h : InRows (TakesRegister i.o i.r1 i.r2 i.u) = rw i.is at c.requires.slots in
    rw (
      i.is,
      map-set,
      map-set,
      c.waiting_register-in-TakesRegister.ensures,
      c.holding-in-TakesRegister.ensures,
      station_tagged h.2 c.of_station-in-TakesRegister.ensures,
      register-seen c.args.m.now.registers i.r1 (search rules) h.0,
      register-seen c.args.m.now.registers i.r2 (search rules) h.1,
      add-one,
    ) refl
