-- `crc::counted_flown` meets its contract: the numbers are the definition's.
-- Assumes nothing.
use borrow.Author.Rules.{rules}
use Rattle.crc.specs.Crc5.{counted_flown}
use Rattle.crc.proofs.counted_flown.Goals as goal

pub returns : goal.returns
unfolding counted_flown
returns c = search rules
