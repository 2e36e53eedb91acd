-- `reporting::put_marks` meets its contract, and ends: each mark ends past the last. Invariant: the lines of the marks before `at` are put, and these marks counted.
-- Assumes nothing.
use Prim.Native.Nat.{◌-◌}
use lib.ListN.{length}
use Rattle.reporting.proofs.Telling.{Telling}
use Rattle.reporting.proofs.put_marks.Given as goal

abbrev pub invariant-loop-out : goal.invariant-loop-out
invariant-loop-out l = Telling l.edition l.state l.piece l.from l.initial.tally l.initial.out l.out l.tally l.to l.at

abbrev pub decreases-loop-out : goal.decreases-loop-out
decreases-loop-out l = length l.piece - l.at
