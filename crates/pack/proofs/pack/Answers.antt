-- `pack` is safe: the last line is short, and its record has room.
-- Assumes nothing.
use Rattle.std.proofs.Common.{rules}
use Rattle.text.proofs.Sizes.{part_size, put_size}
use Rattle.pack.proofs.Rounds.{last_short, last_fits}
use Rattle.pack.proofs.pack.Goals as goal

pub close-last-requires : goal.close-last-requires
close-last-requires c = search (rules, last_short, last_fits)
