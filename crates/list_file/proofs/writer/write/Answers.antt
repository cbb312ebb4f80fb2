use mathlib.Core.Path.{ap, ◌∙◌}
use native.Mathlib.Omega.{arith}
use lib.ListN.{length, length-append}
use Rattle.words.proofs.Refusals.{number_real, handed_on}
use Rattle.seven_bit.specs.SevenBits.{bytes_of}
use Rattle.list_file.specs.Writing.{words_bytes}
use Rattle.list_file.specs.Answers.{told_written}
use Rattle.list_file.proofs.Wrote.{wrote_refused, wrote_short, wrote_all, wrote_within, sets_file}
use Rattle.list_file.proofs.writer.write.Goals as goal

pub returns-in_err-measured : goal.returns-in_err-measured
returns-in_err-measured c =
    let w = wrote_refused c.args.list.now c.args.bytes.now _ (number_real _) c.in_err-measured.ensures in
    (ap told_written (handed_on _ _ c.from_residual.ensures.1) ∙ w.0, w.1)

pub returns-then-bytes-measured : goal.returns-then-bytes-measured
returns-then-bytes-measured c =
    let w = wrote_short _ _ c.in_ok-measured.ensures.0 c.in_ok-measured.ensures.1 c.if-bytes-measured.true in
    (rw c.at.ensures w.0, w.1)

pub overflow_cast-list : goal.overflow_cast-list
overflow_cast-list c =
    omega (arith, wrote_within _ c.args.bytes.now c.in_ok-measured.ensures.0 c.in_ok-measured.ensures.1)

pub put_number-start-requires : goal.put_number-start-requires
put_number-start-requires c =
    let a = c.args in (
      omega (arith, wrote_within _ a.bytes.now c.in_ok-measured.ensures.0 c.in_ok-measured.ensures.1),
      omega (arith, c.in_ok-measured.ensures.1, length-append (bytes_of (length a.list.now)) (words_bytes a.list.now), c.if-bytes-measured.false),
    )

pub put_words-requires : goal.put_words-requires
put_words-requires c =
    let a = c.args in
    omega (
      arith,
      c.in_ok-measured.ensures.1,
      length-append (bytes_of (length a.list.now)) (words_bytes a.list.now),
      c.if-bytes-measured.false,
      c.put_number-start.ensures.0,
      c.put_number-start.auto.bytes,
    )

pub returns : goal.returns
returns c =
    let a = c.args in
    wrote_all a.list.now a.bytes.now c.in_ok-measured.ensures.0 c.in_ok-measured.ensures.1 c.if-bytes-measured.false
    (c.put_words.ensures ∙ rw (c.put_number-start.ensures.0, c.put_number-start.ensures.1) (sets_file a.bytes.now a.list.now))
