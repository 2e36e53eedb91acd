-- `air::repair_words` meets its contract. Invariant: the words before j are repaired and their patterns kept.
-- Assumes nothing.
use Rattle.air.proofs.Repairing.{Repairing}
use Rattle.air.proofs.repair_words.Given as goal

abbrev pub invariant-loop-j : goal.invariant-loop-j
invariant-loop-j l = Repairing l.words l.j l.repaired l.patterns
