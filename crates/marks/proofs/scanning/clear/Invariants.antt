-- `marks::scanning::clear` meets its contract. Invariant: `all` is 0 where a marker stands at one of the first i indices.
-- Assumes nothing.
use Rattle.marks.proofs.Seeking.{Clearing}
use Rattle.marks.proofs.scanning.clear.Given as goal

abbrev pub invariant-loop-i : goal.invariant-loop-i
invariant-loop-i l = Clearing l.bits l.k l.i l.all
