-- `room_for` meets its contract, by the payload's size.
-- Assumes nothing.
use borrow.Author.Rules.{rules}
use Rattle.record_writer.proofs.Answering.{room_long, room_whole}
use Rattle.record_writer.proofs.room_for.Goals as goal

pub returns-then-n-gt-LONGEST_PAYLOAD : goal.returns-then-n-gt-LONGEST_PAYLOAD
returns-then-n-gt-LONGEST_PAYLOAD c = search (rules, room_long)

pub returns : goal.returns
returns c = search (rules, room_whole)
