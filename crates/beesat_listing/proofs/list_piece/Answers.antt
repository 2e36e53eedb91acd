-- `list_piece` meets its contract: the frames of the piece are listed, and what is left goes to the front.
-- Assumes nothing.
use borrow.Author.Rules.{rules}
use Rattle.text.proofs.Sizes.{part_size}
use Rattle.walk.proofs.Keeping.{part_fits, left_inside}
use Rattle.beesat_listing.proofs.Streaming.{frame_sound}
use Rattle.beesat_listing.proofs.Keeping.{part_few}
use Rattle.beesat_listing.proofs.list_piece.Goals as goal

pub slice_bounds-list_frames-end-2 : goal.slice_bounds-list_frames-end-2
slice_bounds-list_frames-end-2 c = search (rules, part_size)

pub list_frames-listed-requires : goal.list_frames-listed-requires
list_frames-listed-requires c = search (rules, part_few, part_fits)

pub keep_last-requires-clause-left_le_end : goal.keep_last-requires-clause-left_le_end
keep_last-requires-clause-left_le_end c = search (rules, left_inside, frame_sound)

pub returns : goal.returns
returns c = search (rules, left_inside, frame_sound)
