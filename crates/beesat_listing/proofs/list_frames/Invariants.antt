-- `list_frames` meets its contract. Invariant: the frames before the rest are taken, and their lines are put.
-- Assumes nothing.
use lib.ListN.{length}
use Rattle.beesat_listing.proofs.Scanning.{Counting}
use Rattle.beesat_listing.proofs.list_frames.Given as goal

abbrev pub invariant-loop-rest : goal.invariant-loop-rest
invariant-loop-rest l = Counting l.initial.counts l.piece l.initial.out l.at l.out l.counts l.rest l.to

abbrev pub decreases-loop-rest : goal.decreases-loop-rest
decreases-loop-rest l = length l.rest
