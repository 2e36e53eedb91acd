-- `crc::down13` meets its contract. Invariant: the bytes from i on are in, the last first.
-- Assumes nothing.
use Rattle.base.proofs.Fold.{Downward}
use Rattle.crc.specs.Crc.{poly13}
use Rattle.crc.proofs.Loop.{crc_byte}
use Rattle.crc.proofs.down13.Given as goal

abbrev pub invariant-loop-i : goal.invariant-loop-i
invariant-loop-i l = Downward (crc_byte 13 poly13) l.start l.bytes l.i l.crc

abbrev pub decreases-loop-i : goal.decreases-loop-i
decreases-loop-i l = l.i
