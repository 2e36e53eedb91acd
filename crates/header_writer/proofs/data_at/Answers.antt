-- `header_writer::data_at` meets its contract: word j lies in the upper number or in the lower.
-- Assumes nothing.
use borrow.Author.Rules.{rules}
use Rattle.header.proofs.Coding.{data_upper, data_lower}
use Rattle.header_writer.proofs.data_at.Goals as goal

pub returns-then-end-le30 : goal.returns-then-end-le30
returns-then-end-le30 c = search (rules, data_upper)

pub returns : goal.returns
returns c = search (rules, data_lower)
