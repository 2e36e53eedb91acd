-- `of_whole` meets its contract, by the refusal's number.
-- Assumes nothing.
use borrow.Author.Rules.{rules}
use Rattle.record_writer.proofs.LongPayload.{of_length, of_other}
use Rattle.record_writer.proofs.of_whole.Goals as goal

pub returns-then-why-eq-LONG_PAYLOAD : goal.returns-then-why-eq-LONG_PAYLOAD
returns-then-why-eq-LONG_PAYLOAD c = search (rules, of_length)

pub returns : goal.returns
returns c = search (rules, of_other)
