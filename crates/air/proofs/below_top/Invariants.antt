-- `air::below_top` meets its contract. Invariant: the positions below i are in, and the weight is that of position i.
-- Assumes nothing.
use mathlib.Core.Path.{◌≡◌}
use Prim.Native.Nat.{◌^◌, ◌≤◌}
use Rattle.air.specs.Lanes.{top_position, lanes_to}
use Rattle.air.proofs.below_top.Given as goal

abbrev pub invariant-loop-i : goal.invariant-loop-i
invariant-loop-i l = (l.i ≤ top_position) × (l.weight ≡ 2 ^ l.i) × (l.lanes ≡ lanes_to l.air.bits.now l.i)
