-- `air::worst_by` meets its contract. Invariant: of the words before j, `worst` is the lowest with the most flips.
-- Assumes nothing.
use Rattle.air.proofs.MostFlips.{Worst}
use Rattle.air.proofs.worst_by.Given as goal

abbrev pub invariant-loop-j : goal.invariant-loop-j
invariant-loop-j l = Worst l.patterns l.j l.worst l.most
