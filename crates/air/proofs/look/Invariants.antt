-- `air::look` meets its contract. Invariant: the elements before i are 0 or 1.
-- Assumes nothing.
use Rattle.air.proofs.Bits.{Looked}
use Rattle.air.proofs.look.Given as goal

abbrev pub invariant-loop-i : goal.invariant-loop-i
invariant-loop-i l = Looked l.bytes l.i
