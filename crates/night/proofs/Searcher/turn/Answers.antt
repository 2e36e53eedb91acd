-- `turn` meets its contract.
-- Assumes nothing.
use borrow.Author.Rules.{rules}
use Rattle.night.proofs.Turning.{turn_goes_on_if}
use Rattle.night.proofs.Searcher.turn.Goals as goal

pub returns : goal.returns
returns c = search (rules, turn_goes_on_if)
