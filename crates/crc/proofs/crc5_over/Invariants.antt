-- `crc::crc5_over` meets its contract. Invariant: the last byte is in, and as many of the others as `below` says, the last first.
-- Assumes nothing.
use Prim.Native.Nat.{◌-◌}
use Rattle.crc.proofs.TwoNumbers.{NineIn}
use Rattle.crc.proofs.crc5_over.Given as goal

abbrev pub invariant-loop-below : goal.invariant-loop-below
invariant-loop-below l = NineIn l.hi l.lo (8 - l.below) l.crc
