-- `air::sum` meets its contract. Invariant: the lanes before j are added.
-- Assumes nothing.
use Rattle.air.proofs.CountingFlips.{Summed}
use Rattle.air.proofs.sum.Given as goal

abbrev pub invariant-loop-j : goal.invariant-loop-j
invariant-loop-j l = Summed l.counts l.j l.sum
