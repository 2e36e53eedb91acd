-- `fill` is safe and ends: each read that is not the last brings a byte.
-- Assumes nothing.
use Rattle.std.proofs.Common.{◌≡◌, ◌-◌, ◌≤◌, length}
use Rattle.streams.proofs.fill.Given as goal

abbrev pub invariant-loop-end : goal.invariant-loop-end
invariant-loop-end l = (length l.buf ≡ length l.initial.buf) × (l.end ≤ length l.initial.buf)

abbrev pub decreases-loop-end : goal.decreases-loop-end
decreases-loop-end l = length l.buf - l.end
