-- `search::read_window` meets its contract.
-- Assumes nothing.
use borrow.Author.Rules.{rules}
use Rattle.search.proofs.Given.{by_rules}
use Rattle.search.proofs.read_window.Goals as goal

pub returns : goal.returns
returns c = search (rules, by_rules)
