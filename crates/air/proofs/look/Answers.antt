use borrow.Author.Rules.{rules}
use Rattle.air.proofs.Bits.{look_stops, look_ends}
use Rattle.air.proofs.look.Goals as goal

pub returns-then-bytes-i-gt1 : goal.returns-then-bytes-i-gt1
returns-then-bytes-i-gt1 c = search (rules, look_stops)

pub returns : goal.returns
returns c = search (rules, look_ends)
