use Rattle.list_file.proofs.Laid.{putting_none, putting_room, putting_more, putting_all}
use Rattle.list_file.proofs.writer.put_words.Goals as goal

pub loop-word-init : goal.loop-word-init
loop-word-init c = putting_none _ _ _ c.requires

pub put_word-at-requires : goal.put_word-at-requires
put_word-at-requires c =
    putting_room _ _ _ c.loop-word.invariant c.loop-word-test.true

pub loop-word-preserved : goal.loop-word-preserved
loop-word-preserved c =
    putting_more _ _ _ c.loop-word.invariant c.loop-word-test.true c.put_word-at.ensures.0 c.put_word-at.ensures.1

pub shape_of-bytes : goal.shape_of-bytes
shape_of-bytes c = c.loop-word.invariant.same

pub returns : goal.returns
returns c = putting_all _ _ _ c.loop-word.invariant c.loop-word-test.false
