-- `capped` meets its contract, by whether the number is above 255.
-- Assumes nothing.
use borrow.Author.Rules.{rules}
use Rattle.write.proofs.SameAnswer.{above, within}
use Rattle.write.proofs.capped.Goals as goal

pub returns-then-n-gt-MORE_THAN_ANY : goal.returns-then-n-gt-MORE_THAN_ANY
returns-then-n-gt-MORE_THAN_ANY c = search (rules, above)

pub returns : goal.returns
returns c = search (rules, within)
