-- `air::with_row` meets its contract. Invariant: the first j lanes have position i in.
-- Assumes nothing.
use Prim.Native.Nat.{◌+◌}
use Rattle.base.proofs.Fill.{Filled}
use Rattle.air.specs.Lanes.{lane_count, lane_to}
use Rattle.air.proofs.with_row.Given as goal

abbrev pub invariant-loop-j : goal.invariant-loop-j
invariant-loop-j l = Filled (lane_to l.air.bits.now (l.i + 1)) lane_count l.initial.next l.j l.next
