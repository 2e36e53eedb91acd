-- `unpack_records` meets its contract. Invariant: the records before the rest are taken, and their lines are put.
-- Assumes nothing.
use lib.ListN.{length}
use Rattle.record.proofs.Scanning.{Scanning}
use Rattle.unpacking.specs.Unpacking.{line_reading}
use Rattle.unpacking.proofs.unpack_records.Given as goal

abbrev pub invariant-loop-len : goal.invariant-loop-len
invariant-loop-len l = Scanning line_reading 2 tt l.piece l.initial.out l.at l.out tt l.rest l.to

abbrev pub decreases-loop-len : goal.decreases-loop-len
decreases-loop-len l = length l.rest
