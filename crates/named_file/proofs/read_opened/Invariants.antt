use Rattle.std.proofs.Common.{◌≤◌, length, take}
use Rattle.std.specs.Io.KnownBytes.{Consumes}
use Rattle.named_file.proofs.read_opened.Given as goal

abbrev pub invariant-loop : goal.invariant-loop
invariant-loop g l = (l.size ≤ length l.bytes) × Consumes (g.F.Read.remaining l.initial.file) (g.F.Read.remaining l.file) (take l.size l.bytes)
