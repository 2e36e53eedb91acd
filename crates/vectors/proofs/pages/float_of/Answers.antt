-- `float_of` makes a float of no NaN's bits: the test says so.
-- Assumes nothing.
use borrow.Author.Rules.{rules}
use Rattle.vectors.proofs.Floats.{no_nan}
use Rattle.vectors.proofs.pages.float_of.Goals as goal

pub float_from_bits-result : goal.float_from_bits-result
float_from_bits-result c = search (rules, no_nan)
