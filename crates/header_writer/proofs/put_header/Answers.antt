-- `header_writer::put_header` meets its contract: the words that are sent are those of the header's bits.
-- Assumes nothing.
use borrow.Author.Rules.{rules}
use Rattle.header.proofs.Packing.{hi_lt, lo_lt, whole_lt, packed}
use Rattle.header.proofs.Refusing.{sent_written}
use Rattle.header_writer.proofs.put_header.Goals as goal

pub invariant_of-crc5 : goal.invariant_of-crc5
invariant_of-crc5 c = search (rules, hi_lt, lo_lt)

pub invariant_of-coded : goal.invariant_of-coded
invariant_of-coded c = search (rules, hi_lt, whole_lt)

pub returns : goal.returns
returns c = search (rules, sent_written, packed)
