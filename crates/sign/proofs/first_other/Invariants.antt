-- `sign::first_other` meets its contract. Invariant: the elements before n are the call sign's.
-- Assumes nothing.
use Rattle.sign.proofs.Agreeing.{Same}
use Rattle.sign.proofs.first_other.Given as goal

abbrev pub invariant-loop-n : goal.invariant-loop-n
invariant-loop-n l = Same l.call l.satellite l.n
