-- `parse` meets its contract. Invariant: the digits before the letter are in the number.
-- Assumes nothing.
use Rattle.options.proofs.Parsing.{Parsing}
use Rattle.options.proofs.parse.Given as goal

abbrev pub invariant-loop-letter : goal.invariant-loop-letter
invariant-loop-letter l = Parsing l.word l.number l.letter-index
