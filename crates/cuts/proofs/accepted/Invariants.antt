-- `accepted` is safe. Invariant: no more headers were accepted than marks were found.
-- Assumes nothing.
use Rattle.std.proofs.Common.{◌≤◌}
use Rattle.cuts.proofs.accepted.Given as goal

abbrev pub invariant-loop : goal.invariant-loop
invariant-loop l = l.good ≤ l.counter
