-- `record::split` meets its contract: each part stands where the record has it.
-- Assumes nothing.
use borrow.Author.Rules.{rules}
use Rattle.record.proofs.Splitting.{splits}
use Rattle.record.proofs.split.Goals as goal

pub returns : goal.returns
returns c = search (rules, splits)
