-- `put_twos` stays within the reply. Invariant: k numbers are put.
-- Assumes nothing.
use Rattle.std.proofs.Common.{◌≡◌, ◌+◌, ◌*◌, ◌≤◌, length}
use Rattle.marshalling.proofs.numbers.put_twos.Given as goal

abbrev pub invariant-loop-n : goal.invariant-loop-n
invariant-loop-n l = (l.n-index ≤ length l.numbers) × (l.next ≡ l.at + 2 * l.n-index)
