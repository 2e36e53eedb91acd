-- `word::table::Syndromes::row` meets its contract: the table holds its rows.
-- Assumes nothing.
use borrow.Author.Rules.{rules}
use Rattle.word.proofs.Answer.{row_of_lem}
use Rattle.word.proofs.table.Syndromes.row.Goals as goal

pub returns : goal.returns
returns c = search (rules, row_of_lem)
