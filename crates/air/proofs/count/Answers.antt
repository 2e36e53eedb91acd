-- `air::count` meets its contract: a pattern has no flips above a word's positions.
-- Assumes nothing.
use borrow.Author.Rules.{rules}
use Rattle.air.proofs.MostFlips.{count_is}
use Rattle.air.proofs.count.Goals as goal

pub returns : goal.returns
returns c = search (rules, count_is)
