-- `judge_words` meets its contract: the data of six words and of eight are the header's two numbers.
-- Assumes nothing.
use borrow.Author.Rules.{rules}
use Rattle.header.proofs.WordData.{upper_small, lower_small, halves}
use Rattle.header_reader.proofs.Judging.{judged_halves}
use Rattle.header_reader.proofs.judge_words.Goals as goal

pub invariant_of-judge : goal.invariant_of-judge
invariant_of-judge c = search (rules, upper_small, lower_small)

pub returns : goal.returns
returns c = search (rules, judged_halves, halves)
