use borrow.Author.Rules.{rules}
use Rattle.marks.specs.Pieces.{no_step}
use Rattle.marks.proofs.none.Goals as goal

-- src/lib.rt:108:1
pub returns : goal.returns
unfolding no_step
returns c = search rules
