-- `marks::take` meets its contract.
-- Assumes nothing.
use borrow.Author.Rules.{rules}
use Rattle.marks.proofs.Verdicts.{room, stays, moves_on}
use Rattle.marks.proofs.take.Goals as goal

pub more-requires : goal.more-requires
more-requires c = search (rules, room)

pub returns-in-Err : goal.returns-in-Err
returns-in-Err c = search (rules, stays)

pub returns-in-Ok : goal.returns-in-Ok
returns-in-Ok c = search (rules, moves_on)
