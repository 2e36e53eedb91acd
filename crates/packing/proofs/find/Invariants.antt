-- `find` meets its contract. Invariant: none of the letters before i is the one.
-- Assumes nothing.
use Rattle.packing.proofs.Digits.{Finding}
use Rattle.packing.proofs.find.Given as goal

abbrev pub invariant-loop-i : goal.invariant-loop-i
invariant-loop-i l = Finding l.letters l.mark l.i
