-- `accept` meets its contract: rows 20 and 1, or what the later rows say of 210 bytes.
-- Assumes nothing.
use borrow.Author.Rules.{rules}
use Rattle.header_reader.proofs.Rows.{gives_20, gives_1}
use Rattle.header_reader.proofs.accept.Goals as goal

pub returns-then-limit-gt-MOST_FLIPS : goal.returns-then-limit-gt-MOST_FLIPS
returns-then-limit-gt-MOST_FLIPS c = search (rules, gives_20)

pub returns-in_default : goal.returns-in_default
returns-in_default c = search (rules, gives_1)
