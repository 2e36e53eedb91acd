use borrow.Author.Rules.{rules}
use Rattle.header.proofs.Ranges.{over_stops, over_ends}
use Rattle.header_writer.proofs.first_above.Goals as goal

pub returns-then-most-values : goal.returns-then-most-values
returns-then-most-values c = search (rules, over_stops)

pub returns : goal.returns
returns c = search (rules, over_ends)
