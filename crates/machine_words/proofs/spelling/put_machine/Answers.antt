use Rattle.machine_parts.specs.View.{view_register, view_buffer, view_station, view_store}
use Rattle.machine_words.specs.Image.{operand_words, buffer_words, station_words, store_words}
use Rattle.machine_words.proofs.Rows.{over_seen}
use Rattle.machine_words.proofs.spelling.put_machine.Goals as goal

pub returns : goal.returns
returns c =
    let m = c.args.m in
    rw (
      ← over_seen view_store store_words 5 62 m.stores,
      ← over_seen view_station station_words 7 27 m.stations,
      ← over_seen view_buffer buffer_words 3 9 m.buffers,
      ← over_seen view_register operand_words 2 1 m.registers,
      c.put_row-4.ensures,
      c.put_row-3.ensures,
      c.put_row-2.ensures,
      c.put_row.ensures,
      c.put.ensures,
    )
