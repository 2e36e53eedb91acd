-- `sheet_lines::put_refusals` meets its contract. Invariant: the counts below k have their lines.
-- Assumes nothing.
use Rattle.sheet_lines.proofs.Loops.{Given}
use Rattle.sheet_lines.proofs.put_refusals.Given as goal

abbrev pub invariant-loop-k : goal.invariant-loop-k
invariant-loop-k l = Given l.counts l.initial.out l.at l.out l.to l.k
