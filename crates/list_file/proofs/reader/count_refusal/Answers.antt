use borrow.Author.Tests.{lt-ltb, le-ltb}
use Rattle.list_file.proofs.reader.count_refusal.Goals as goal

pub returns-then-count-gt-LIST_LIMIT : goal.returns-then-count-gt-LIST_LIMIT
returns-then-count-gt-LIST_LIMIT c = rw (lt-ltb _ _ c.if-count-gt-LIST_LIMIT.true)

pub returns-then-room-count : goal.returns-then-room-count
returns-then-room-count c = rw (le-ltb _ _ c.if-count-gt-LIST_LIMIT.false, lt-ltb _ _ c.if-room-count.true)

pub returns : goal.returns
returns c = rw (le-ltb _ _ c.if-count-gt-LIST_LIMIT.false, le-ltb _ _ c.if-room-count.false)
