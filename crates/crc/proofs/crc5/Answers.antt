-- `crc::crc5` meets its contract: what counts of the lower number is what counts of the header.
-- Assumes nothing.
use borrow.Author.Rules.{rules}
use Rattle.crc.proofs.TwoNumbers.{counted_lt, counted_in}
use Rattle.crc.proofs.crc5.Goals as goal

pub invariant_of-crc5_over : goal.invariant_of-crc5_over
invariant_of-crc5_over c = search (rules, counted_lt)

pub returns : goal.returns
returns c = search (rules, counted_in)
