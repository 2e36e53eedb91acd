-- `report_list::write_cuts` is safe and ends. The measure is the number of files that are left. Invariant: the buffer keeps its length.
-- Assumes nothing.
use Prim.Native.Nat.{◌-◌}
use Rattle.report_list.proofs.Rounds.{Writing}
use Rattle.report_list.proofs.write_cuts.Given as goal

abbrev pub invariant-loop-from : goal.invariant-loop-from
invariant-loop-from l = Writing l.files l.initial.out l.out l.from

abbrev pub decreases-loop-from : goal.decreases-loop-from
decreases-loop-from l = l.files - l.from
