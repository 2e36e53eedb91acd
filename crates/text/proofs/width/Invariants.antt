-- `width` meets its contract. Invariant: k digits are counted, and `unit` is the weight of the first of them.
-- Assumes nothing.
use Prim.Native.Nat.{◌-◌}
use Rattle.text.proofs.Counting.{Counted}
use Rattle.text.proofs.width.Given as goal

abbrev pub invariant-loop-unit : goal.invariant-loop-unit
invariant-loop-unit l = Counted l.n l.unit l.k

abbrev pub decreases-loop-unit : goal.decreases-loop-unit
decreases-loop-unit l = l.n - l.unit
