-- `listing::list_records` meets its contract. Invariant: the records before the rest are taken, and their lines are put.
-- Assumes nothing.
use lib.ListN.{length}
use Rattle.record.proofs.Scanning.{Scanning}
use Rattle.listing.specs.Listing.{list_reading}
use Rattle.listing.proofs.list_records.Given as goal

abbrev pub invariant-loop-len : goal.invariant-loop-len
invariant-loop-len l = Scanning (list_reading l.rules) 1 l.initial.tally l.piece l.initial.out l.at l.out l.tally l.rest l.to

abbrev pub decreases-loop-len : goal.decreases-loop-len
decreases-loop-len l = length l.rest
