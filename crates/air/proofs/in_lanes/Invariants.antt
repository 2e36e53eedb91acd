-- `air::in_lanes` meets its contract. Invariant: the first j patterns are there.
-- Assumes nothing.
use lib.ListN.{get_or}
use Rattle.base.proofs.Fill.{Filled}
use Rattle.air.specs.Air.{word_count}
use Rattle.air.proofs.in_lanes.Given as goal

abbrev pub invariant-loop-j : goal.invariant-loop-j
invariant-loop-j l = Filled (λ k. get_or l.patterns k 0) word_count l.initial.lanes l.j l.lanes
