use Prim.Native.Nat.{◌+◌, ◌*◌}
use lib.Ieee.{nan}
use borrow.Author.Rules.{rules}
use Rattle.machine_parts.specs.declared.Operand.TheVariants.{Number}
use Rattle.machine_parts.specs.declared.BufferState.TheVariants as buffer
use Rattle.machine_parts.specs.declared.StationState.TheVariants as station
use Rattle.machine_parts.specs.View.{view_register, view_buffer, view_station, view_store}
use Rattle.machine_words.specs.Image.{operand_at, buffer_at, station_at, store_at}
use Rattle.std.specs.Prelude.{None}
use Rattle.machine_words.proofs.Made.{made}
use Rattle.machine_words.proofs.image.machine_in.Goals as goal

pub returns : goal.returns
returns c =
    let row = c.args.row.now in
    rw (
      c.word_at.ensures,
      made _ view_register (λ i. operand_at row (1 + i * 2)) c.from_fn.result 4 (λ k y q h e. search rules) c.from_fn.ensures.items (record { operand = Number nan }),
      made _ view_buffer (λ i. buffer_at row (9 + i * 3)) c.from_fn-2.result 6 (λ k y q h e. search rules) c.from_fn-2.ensures.items (record { state = buffer.Free }),
      made _ view_station (λ i. station_at row (27 + i * 7)) c.from_fn-3.result 5 (λ k y q h e. search rules) c.from_fn-3.ensures.items (record { state = station.Free }),
      made _ view_store (λ i. store_at row (62 + i * 5)) c.from_fn-4.result 3 (λ k y q h e. search rules) c.from_fn-4.ensures.items (record { pending = None }),
    )
