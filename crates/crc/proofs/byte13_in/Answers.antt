-- `crc::byte13_in` meets its contract: what a byte makes by the table is what its bits make.
-- Assumes nothing.
use borrow.Author.Rules.{rules}
use lib.Dec.{lit<, lit≤}
use Rattle.crc.specs.Crc.{poly13}
use Rattle.crc.proofs.ByTable.{stepped}
use Rattle.crc.proofs.byte13_in.Goals as goal

pub returns : goal.returns
returns c = search (rules, stepped 13 poly13 (lit≤ tt) (lit< tt))
