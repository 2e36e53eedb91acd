-- `digits_ahead` meets its contract. Invariant: the letters before i are digits.
-- Assumes nothing.
use Rattle.packing.proofs.Digits.{Ahead}
use Rattle.packing.proofs.digits_ahead.Given as goal

abbrev pub invariant-loop-i : goal.invariant-loop-i
invariant-loop-i l = Ahead l.base l.letters l.i
