use mathlib.Core.Path.{ap, ◌∙◌}
use native.Mathlib.Omega.{arith}
use Rattle.list_file.proofs.Laid.{size, word_size, sets_word}
use Rattle.list_file.proofs.writer.put_word.Goals as goal

pub put_number-second-requires : goal.put_number-second-requires
put_number-second-requires c = (
  omega (arith, c.operation_of.ensures),
  omega (arith, word_size c.args.word, ap size c.operation_of.ensures),
)

pub put_number-third-requires : goal.put_number-third-requires
put_number-third-requires c = (
  omega (arith, c.r1_of.ensures),
  omega (
    arith,
    word_size c.args.word,
    ap size c.operation_of.ensures,
    c.put_number-second.ensures.0,
    c.put_number-second.auto.bytes,
    ap size c.r1_of.ensures,
  ),
)

pub put_number-requires : goal.put_number-requires
put_number-requires c = (
  omega (arith, c.operand_of.ensures),
  omega (
    arith,
    word_size c.args.word,
    ap size c.operation_of.ensures,
    c.put_number-second.ensures.0,
    c.put_number-second.auto.bytes,
    ap size c.r1_of.ensures,
    c.put_number-third.ensures.0,
    c.put_number-third.auto.bytes,
    ap size c.operand_of.ensures,
  ),
)

pub returns : goal.returns
returns c = (
  omega (
    arith,
    word_size c.args.word,
    ap size c.operation_of.ensures,
    c.put_number-second.ensures.0,
    ap size c.r1_of.ensures,
    c.put_number-third.ensures.0,
    ap size c.operand_of.ensures,
    c.put_number.ensures.0,
  ),
  c.put_number.ensures.1
      ∙ rw (
        c.put_number-third.ensures.1,
        c.put_number-second.ensures.1,
        c.put_number-third.ensures.0,
        c.put_number-second.ensures.0,
        c.operation_of.ensures,
        c.r1_of.ensures,
        c.operand_of.ensures,
      ) (sets_word _ _ _),
)
