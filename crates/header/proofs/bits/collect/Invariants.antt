-- `collect` meets its contract. Invariant: the data of the words before i is in the number.
-- Assumes nothing.
use Rattle.header.proofs.WordData.{Gathered}
use Rattle.header.proofs.bits.collect.Given as goal

abbrev pub invariant-loop-word : goal.invariant-loop-word
invariant-loop-word l = Gathered l.words l.word-index l.number
