-- `sheet_listing::count_records` meets its contract. Invariant: the records before the rest are counted.
-- Assumes nothing.
use lib.ListN.{length}
use Rattle.record.proofs.Scanning.{Counting}
use Rattle.sheet_listing.specs.Pieces.{sheet_reading}
use Rattle.sheet_listing.specs.Promises.{held_totals}
use Rattle.sheet_listing.proofs.count_records.Given as goal

abbrev pub invariant-loop-len : goal.invariant-loop-len
invariant-loop-len l = Counting (sheet_reading l.rules) (held_totals l.initial.totals l.initial.tally) l.piece (held_totals l.totals l.tally) l.rest

abbrev pub decreases-loop-len : goal.decreases-loop-len
decreases-loop-len l = length l.rest
