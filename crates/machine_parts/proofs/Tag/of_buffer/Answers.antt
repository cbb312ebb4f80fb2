use borrow.Author.Tests.{lt-ltb, le-ltb}
use Rattle.machine_parts.proofs.Tag.of_buffer.Goals as goal

pub returns-then-i-lt-BUFFERS : goal.returns-then-i-lt-BUFFERS
returns-then-i-lt-BUFFERS c = rw (lt-ltb _ 6 c.if-i-lt-BUFFERS.true)

pub returns : goal.returns
returns c = rw (le-ltb _ 6 c.if-i-lt-BUFFERS.false)
