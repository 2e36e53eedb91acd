-- `sheet_lines::put_sources` meets its contract. Invariant: the sources below k have their lines.
-- Assumes nothing.
use Rattle.sheet_lines.proofs.Loops.{Heard}
use Rattle.sheet_lines.proofs.put_sources.Given as goal

abbrev pub invariant-loop-k : goal.invariant-loop-k
invariant-loop-k l = Heard l.edition l.sheet l.records l.initial.out l.at l.out l.to l.k
