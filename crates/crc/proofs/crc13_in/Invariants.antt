-- `crc::crc13_in` meets its contract. Invariant: what the bytes before `at` make of a state, the sum makes of it.
-- Assumes nothing.
use Prim.Native.Nat.{◌-◌}
use lib.ListN.{length}
use Rattle.crc.proofs.Adding.{Summed}
use Rattle.crc.proofs.crc13_in.Given as goal

abbrev pub invariant-loop-at : goal.invariant-loop-at
invariant-loop-at l = Summed l.payload l.at l.sum

abbrev pub decreases-loop-at : goal.decreases-loop-at
decreases-loop-at l = length l.payload - l.at
