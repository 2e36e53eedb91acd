use borrow.Author.Rules.{rules}
use Rattle.text.proofs.Fixed.{digit_small, starts, goes_on, ends}
use Rattle.text.proofs.put_digits.Goals as goal

pub loop-k-init : goal.loop-k-init
loop-k-init c = search (rules, starts)

pub letter-requires : goal.letter-requires
letter-requires c = search (rules, digit_small)

pub loop-k-preserved : goal.loop-k-preserved
loop-k-preserved c = search (rules, goes_on)

pub returns : goal.returns
returns c = search (rules, ends)
