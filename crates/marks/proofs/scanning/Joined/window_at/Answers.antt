-- `marks::scanning::Joined::window_at` meets its contract: a window starts in what is kept, or in the piece.
-- Assumes nothing.
use borrow.Author.Rules.{rules}
use Rattle.marks.proofs.Joining.{window_of_edge, window_of_piece}
use Rattle.marks.proofs.scanning.Joined.window_at.Goals as goal

pub returns-then-k-lt-WINDOW_BITS : goal.returns-then-k-lt-WINDOW_BITS
returns-then-k-lt-WINDOW_BITS c = search (rules, window_of_edge)

pub returns : goal.returns
returns c = search (rules, window_of_piece)
