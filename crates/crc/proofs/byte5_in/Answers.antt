-- `crc::byte5_in` meets its contract: the step is all that the byte makes.
-- Assumes nothing.
use borrow.Author.Rules.{rules}
use Rattle.crc.proofs.ByTable.{by_table5}
use Rattle.crc.proofs.byte5_in.Goals as goal

pub returns : goal.returns
returns c = search (rules, by_table5)
