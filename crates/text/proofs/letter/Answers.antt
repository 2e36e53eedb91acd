-- `letter` meets its contract: digits below ten, and above.
-- Assumes nothing.
use borrow.Author.Rules.{rules}
use Rattle.text.proofs.Fixed.{letter_low, letter_high}
use Rattle.text.proofs.letter.Goals as goal

pub returns-then-d-lt10 : goal.returns-then-d-lt10
returns-then-d-lt10 c = search (rules, letter_low)

pub returns : goal.returns
returns c = search (rules, letter_high)
