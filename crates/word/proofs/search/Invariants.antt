-- `word::search` meets its contract. Invariant: none of the words before q is within three.
-- Assumes nothing.
use Rattle.word.proofs.Turns.{Searched}
use Rattle.word.proofs.search.Given as goal

abbrev pub invariant-loop-q : goal.invariant-loop-q
invariant-loop-q l = Searched l.w l.q
