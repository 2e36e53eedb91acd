-- `put_record` meets its contract: length, air bits and payload go one after another.
-- Assumes nothing.
use borrow.Author.Rules.{rules}
use Rattle.record_writer.proofs.Putting.{put_record}
use Rattle.record_writer.proofs.put_record.Goals as goal

pub returns : goal.returns
returns c = search (rules, put_record)
