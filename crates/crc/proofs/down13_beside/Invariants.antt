-- `crc::down13_beside` meets its contract. Invariant: the bytes from i on are in one state, those of the sum from j on in the other.
-- Assumes nothing.
use Rattle.crc.proofs.Adding.{Beside}
use Rattle.crc.proofs.down13_beside.Given as goal

abbrev pub invariant-loop-i : goal.invariant-loop-i
invariant-loop-i l = Beside l.bytes l.sum l.i l.j l.started l.added

abbrev pub decreases-loop-i : goal.decreases-loop-i
decreases-loop-i l = l.i
