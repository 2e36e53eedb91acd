-- `crc::byte16_in` meets its contract: what a byte makes by the table is what its bits make.
-- Assumes nothing.
use borrow.Author.Rules.{rules}
use lib.Dec.{lit<, lit≤}
use Rattle.crc.specs.Crc.{poly16}
use Rattle.crc.proofs.ByTable.{stepped}
use Rattle.crc.proofs.byte16_in.Goals as goal

pub returns : goal.returns
returns c = search (rules, stepped 16 poly16 (lit≤ tt) (lit< tt))
