-- `count_on` meets its contract. Invariant: the size is not below the buffer's.
-- Assumes nothing.
use Rattle.std.proofs.Common.{◌≡◌, ◌≤◌, length}
use Rattle.streams.proofs.count_on.Given as goal

abbrev pub invariant-loop : goal.invariant-loop
invariant-loop l = (length l.buf ≡ length l.initial.buf) × (length l.initial.buf ≤ l.size)
