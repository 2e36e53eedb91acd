-- `marks::scanning::Joined::in_edge` meets its contract.
-- Assumes nothing.
use borrow.Author.Rules.{rules}
use Rattle.marks.proofs.Seeking.{sought_edge}
use Rattle.marks.proofs.scanning.Joined.in_edge.Goals as goal

pub returns : goal.returns
returns c = search (rules, sought_edge)
