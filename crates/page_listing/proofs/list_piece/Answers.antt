-- `page_listing::list_piece` meets its contract: the records of the piece are listed, and what is left goes to the front.
-- Assumes nothing.
use borrow.Author.Rules.{rules}
use Rattle.text.proofs.Sizes.{part_size}
use Rattle.walk.proofs.Keeping.{part_fits, left_inside}
use Rattle.page_listing.proofs.Streaming.{page_sound}
use Rattle.page_listing.proofs.list_piece.Goals as goal

pub slice_bounds-list_records-end-2 : goal.slice_bounds-list_records-end-2
slice_bounds-list_records-end-2 c = search (rules, part_size)

pub list_records-listed-requires : goal.list_records-listed-requires
list_records-listed-requires c = search (rules, part_fits)

pub keep_last-requires-clause-left_le_end : goal.keep_last-requires-clause-left_le_end
keep_last-requires-clause-left_le_end c = search (rules, left_inside, page_sound)

pub returns : goal.returns
returns c = search (rules, left_inside, page_sound)
