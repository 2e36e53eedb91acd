-- `sheet_listing::count_piece` meets its contract: the records of the piece are counted, and what is left goes to the front.
-- Assumes nothing.
use borrow.Author.Rules.{rules}
use Rattle.sheet_listing.proofs.Keeping.{left_inside}
use Rattle.text.proofs.Sizes.{part_size}
use Rattle.sheet_listing.proofs.count_piece.Goals as goal

pub slice_bounds-count_records-end-2 : goal.slice_bounds-count_records-end-2
slice_bounds-count_records-end-2 c = search (rules, part_size)

pub keep_last-requires-clause-left_le_end : goal.keep_last-requires-clause-left_le_end
keep_last-requires-clause-left_le_end c = search (rules, left_inside)

pub returns : goal.returns
returns c = search (rules, left_inside)
