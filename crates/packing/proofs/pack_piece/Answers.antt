-- `packing::pack_piece` meets its contract: the lines of the piece are packed, and what is left goes to the front.
-- Assumes nothing.
use Rattle.std.proofs.Common.{rules}
use Rattle.text.proofs.Sizes.{part_size}
use Rattle.walk.proofs.Keeping.{part_fits, left_inside}
use Rattle.packing.proofs.Streaming.{pack_sound}
use Rattle.packing.proofs.pack_piece.Goals as goal

pub slice_bounds-pack_lines-end-2 : goal.slice_bounds-pack_lines-end-2
slice_bounds-pack_lines-end-2 c = search (rules, part_size)

pub pack_lines-packed-requires : goal.pack_lines-packed-requires
pack_lines-packed-requires c = search (rules, part_fits)

pub keep_last-requires-clause-left_le_end : goal.keep_last-requires-clause-left_le_end
keep_last-requires-clause-left_le_end c = search (rules, left_inside, pack_sound)

pub returns : goal.returns
returns c = search (rules, left_inside, pack_sound)
