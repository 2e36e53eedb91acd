-- `unpacking::unpack_piece` meets its contract: the records of the piece are unpacked, and what is left goes to the front.
-- Assumes nothing.
use borrow.Author.Rules.{rules}
use Rattle.text.proofs.Sizes.{part_size}
use Rattle.walk.proofs.Keeping.{part_fits, left_inside}
use Rattle.unpacking.proofs.Streaming.{line_sound}
use Rattle.unpacking.proofs.unpack_piece.Goals as goal

pub slice_bounds-unpack_records-end-2 : goal.slice_bounds-unpack_records-end-2
slice_bounds-unpack_records-end-2 c = search (rules, part_size)

pub unpack_records-unpacked-requires : goal.unpack_records-unpacked-requires
unpack_records-unpacked-requires c = search (rules, part_fits)

pub keep_last-requires-clause-left_le_end : goal.keep_last-requires-clause-left_le_end
keep_last-requires-clause-left_le_end c = search (rules, left_inside, line_sound)

pub returns : goal.returns
returns c = search (rules, left_inside, line_sound)
