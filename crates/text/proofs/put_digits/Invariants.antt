-- `put_digits` meets its contract. Invariant: with the last k digits of `rest`, the text is whole.
-- Assumes nothing.
use Rattle.text.proofs.Fixed.{Filled}
use Rattle.text.proofs.put_digits.Given as goal

abbrev pub invariant-loop-k : goal.invariant-loop-k
invariant-loop-k l = Filled l.initial.out l.at l.base l.width l.n l.out l.k l.rest
