use borrow.Author.Rules.{rules}
use Rattle.sign.proofs.Agreeing.{same_stops, same_ends}
use Rattle.sign.proofs.first_other.Goals as goal

pub returns-then-element-sign_bit : goal.returns-then-element-sign_bit
returns-then-element-sign_bit c = search (rules, same_stops)

pub returns : goal.returns
returns c = search (rules, same_ends)
