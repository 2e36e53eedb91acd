-- `air::words` meets its contract. Invariant: the words before j have their top position in.
-- Assumes nothing.
use Rattle.base.proofs.Fill.{Filled}
use Rattle.air.specs.Air.{word_count, word_at}
use Rattle.air.proofs.words.Given as goal

abbrev pub invariant-loop-j : goal.invariant-loop-j
invariant-loop-j l = Filled (word_at l.air.bits.now) word_count l.initial.all l.j l.all
