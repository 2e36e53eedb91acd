-- `crc::counting` meets its contract, edition by edition.
-- Assumes nothing.
use borrow.Author.Rules.{rules}
use Rattle.crc.proofs.TwoNumbers.{counts_flown}
use Rattle.crc.proofs.counting.Goals as goal

pub returns-in-Flown : goal.returns-in-Flown
returns-in-Flown c = search (rules, counts_flown)
