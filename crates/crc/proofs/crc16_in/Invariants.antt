-- `crc::crc16_in` meets its contract. Invariant: the bytes before this one are in.
-- Assumes nothing.
use Rattle.base.proofs.Fold.{Upward}
use Rattle.crc.specs.Crc.{poly16, start16}
use Rattle.crc.proofs.Loop.{crc_byte}
use Rattle.crc.proofs.crc16_in.Given as goal

abbrev pub invariant-loop-byte : goal.invariant-loop-byte
invariant-loop-byte l = Upward (crc_byte 16 poly16) start16 l.bytes l.byte-index l.crc
