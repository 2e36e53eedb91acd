-- `marks::fresh` meets its contract. Assumes nothing.
use borrow.Author.Rules.{rules}
use Rattle.marks.specs.Pieces.{fresh_state}
use Rattle.marks.proofs.fresh.Goals as goal

pub returns : goal.returns
unfolding fresh_state
returns c = search rules
