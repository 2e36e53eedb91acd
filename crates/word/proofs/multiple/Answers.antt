-- `word::multiple` meets its contract: the sum of the multiples of the single coefficients.
-- Assumes nothing.
use borrow.Author.Rules.{rules}
use Rattle.word.proofs.Multiples.{multiple_bits}
use Rattle.word.proofs.multiple.Goals as goal

pub returns : goal.returns
returns c = search (rules, multiple_bits)
