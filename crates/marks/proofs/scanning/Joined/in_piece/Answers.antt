-- `marks::scanning::Joined::in_piece` meets its contract.
-- Assumes nothing.
use borrow.Author.Rules.{rules}
use Rattle.marks.proofs.Seeking.{sought_piece}
use Rattle.marks.proofs.scanning.Joined.in_piece.Goals as goal

pub returns : goal.returns
returns c = search (rules, sought_piece)
