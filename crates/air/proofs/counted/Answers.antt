-- `air::counted` meets its contract: the lanes past the patterns change no count.
-- Assumes nothing.
use borrow.Author.Rules.{rules}
use Rattle.air.proofs.CountingFlips.{counts_padded}
use Rattle.air.proofs.counted.Goals as goal

pub returns : goal.returns
returns c = search (rules, counts_padded)
