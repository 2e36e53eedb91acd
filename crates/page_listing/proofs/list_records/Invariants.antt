-- `page_listing::list_records` meets its contract. Invariant: the records before the rest are taken, and their lines are put.
-- Assumes nothing.
use lib.ListN.{length}
use Rattle.record.proofs.Scanning.{Scanning}
use Rattle.page_listing.specs.Listing.{growth, page_reading}
use Rattle.page_listing.proofs.list_records.Given as goal

abbrev pub invariant-loop-len : goal.invariant-loop-len
invariant-loop-len l = Scanning (page_reading l.rules) growth l.initial.counts l.piece l.initial.out l.at l.out l.counts l.rest l.to

abbrev pub decreases-loop-len : goal.decreases-loop-len
decreases-loop-len l = length l.rest
