-- `record::next_record` meets its contract: the tests passed say what stands at the front.
-- Assumes nothing.
use borrow.Author.Rules.{rules}
use Rattle.record.proofs.Cuts.{no_length, too_long, ends_early_lem, is_whole}
use Rattle.record.proofs.next_record.Goals as goal

pub returns-then-rest-lt-LENGTH_BYTES : goal.returns-then-rest-lt-LENGTH_BYTES
returns-then-rest-lt-LENGTH_BYTES c = search (rules, no_length)

pub returns-then-len-gt-LONGEST_PAYLOAD : goal.returns-then-len-gt-LONGEST_PAYLOAD
returns-then-len-gt-LONGEST_PAYLOAD c = search (rules, too_long)

pub returns-then-rest-len : goal.returns-then-rest-len
returns-then-rest-len c = search (rules, ends_early_lem)

pub returns : goal.returns
returns c = search (rules, is_whole)
