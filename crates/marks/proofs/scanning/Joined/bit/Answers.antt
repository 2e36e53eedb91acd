-- `marks::scanning::Joined::bit` meets its contract.
-- Assumes nothing.
use borrow.Author.Rules.{rules}
use Rattle.marks.proofs.Joining.{in_kept, in_piece, past_piece}
use Rattle.marks.proofs.scanning.Joined.bit.Goals as goal

pub returns-then-i-lt-WINDOW_BITS : goal.returns-then-i-lt-WINDOW_BITS
returns-then-i-lt-WINDOW_BITS c = search (rules, in_kept)

pub returns-then-i-self : goal.returns-then-i-self
returns-then-i-self c = search (rules, in_piece)

pub returns : goal.returns
returns c = search (rules, past_piece)
