-- `word::repair_in` meets its contract: the row of the word's remainder says what repair answers.
-- Assumes nothing.
use borrow.Author.Rules.{rules}
use Rattle.word.proofs.Answer.{repair_above, row_lt, repair_mark, repair_flips}
use Rattle.word.proofs.repair_in.Goals as goal

pub returns-then-w-ge-WORD_LIMIT : goal.returns-then-w-ge-WORD_LIMIT
returns-then-w-ge-WORD_LIMIT c = search (rules, repair_above)

pub row-flips-requires : goal.row-flips-requires
row-flips-requires c = search (rules, row_lt)

pub returns-then-flips : goal.returns-then-flips
returns-then-flips c = search (rules, repair_mark)

pub returns : goal.returns
returns c = search (rules, repair_flips)
