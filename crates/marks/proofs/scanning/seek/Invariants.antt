-- `marks::scanning::seek` meets its contract. Invariant: no marker stands before k.
-- Assumes nothing.
use Prim.Native.Nat.{◌-◌}
use Rattle.marks.proofs.Seeking.{Seeking}
use Rattle.marks.proofs.scanning.seek.Given as goal

abbrev pub invariant-loop-k : goal.invariant-loop-k
invariant-loop-k l = Seeking l.bits l.from l.end l.k

abbrev pub decreases-loop-k : goal.decreases-loop-k
decreases-loop-k l = l.end - l.k
