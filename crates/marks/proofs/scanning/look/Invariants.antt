-- `marks::scanning::look` meets its contract. Invariant: no marker stands before k.
-- Assumes nothing.
use Rattle.marks.proofs.Seeking.{Seeking}
use Rattle.marks.proofs.scanning.look.Given as goal

abbrev pub invariant-loop-k : goal.invariant-loop-k
invariant-loop-k l = Seeking l.bits l.from l.end l.k
