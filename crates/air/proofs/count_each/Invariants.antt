-- `air::count_each` meets its contract. Invariant: the flips of the first j lanes are counted.
-- Assumes nothing.
use lib.ListN.{get_or}
use Rattle.base.proofs.Fill.{Filled}
use Rattle.word.specs.Words.{flip_count}
use Rattle.air.specs.Lanes.{lane_count}
use Rattle.air.proofs.count_each.Given as goal

abbrev pub invariant-loop-j : goal.invariant-loop-j
invariant-loop-j l = Filled (λ k. flip_count (get_or l.lanes k 0)) lane_count l.initial.counts l.j l.counts
