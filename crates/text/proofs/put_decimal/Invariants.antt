-- `put_decimal` meets its contract. Invariant: with the digits of `rest`, whose last one goes to i, the text is whole.
-- Assumes nothing.
use Rattle.text.proofs.Spelling.{Spelled}
use Rattle.text.proofs.put_decimal.Given as goal

abbrev pub invariant-loop-rest : goal.invariant-loop-rest
invariant-loop-rest l = Spelled l.initial.out l.at l.n l.end l.out l.i l.rest

abbrev pub decreases-loop-rest : goal.decreases-loop-rest
decreases-loop-rest l = l.rest
