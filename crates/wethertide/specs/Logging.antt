-- What only the contracts of private functions cite: the log after a stop of a run.
use Rattle.std.specs.Prelude.{cond, ◌&&◌, List, ℕ, ◌*◌, ltb}
use Rattle.std.proofs.lemmas.List.Edits.{sets}
use Rattle.machine_parts.specs.View.{view_record}
use Rattle.machine_steps.specs.declared.advance.Entry.{Entry}
use Rattle.machine_steps.specs.Advance.{Stop}
use Rattle.wethertide.specs.Entries.{record_length, record_words, room_in}

abbrev pub logged_stop : (log : List ℕ) → Stop → List ℕ
logged_stop log s = cond (s.released && ltb s.index (room_in log)) (sets log (s.index * record_length) (record_words (view_record s.made))) log

abbrev pub logged_entry : (log : List ℕ) → Entry → List ℕ
logged_entry log e = cond (ltb e.index (room_in log)) (sets log (e.index * record_length) (record_words (view_record e.made))) log
