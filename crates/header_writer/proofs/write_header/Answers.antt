-- `header_writer::write_header` meets its contract: the tests passed say which row is the first that applies.
-- Assumes nothing.
use borrow.Author.Rules.{rules}
use Rattle.header.proofs.Refusing.{gives_13, gives_14, gives_15, writes}
use Rattle.header_writer.proofs.write_header.Goals as goal

pub returns-then-room-lt-AIR_BITS : goal.returns-then-room-lt-AIR_BITS
returns-then-room-lt-AIR_BITS c = search (rules, gives_13)

pub returns-then-over-lt-FIELD_COUNT : goal.returns-then-over-lt-FIELD_COUNT
returns-then-over-lt-FIELD_COUNT c = search (rules, gives_14)

pub returns-then-size-gt-LONGEST_PAYLOAD : goal.returns-then-size-gt-LONGEST_PAYLOAD
returns-then-size-gt-LONGEST_PAYLOAD c = search (rules, gives_15)

pub returns : goal.returns
returns c = search (rules, writes)
