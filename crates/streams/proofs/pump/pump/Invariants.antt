-- There is always room to read on.
-- Assumes nothing.
use Rattle.std.proofs.Common.{◌<◌, length}
use Rattle.streams.proofs.pump.pump.Given as goal

abbrev pub invariant-loop : goal.invariant-loop
invariant-loop g l = l.left < length l.buf
