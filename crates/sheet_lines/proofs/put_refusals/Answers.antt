use borrow.Author.Rules.{rules}
use Rattle.sheet_lines.proofs.Loops.{given_starts, given_room, given_goes_on, given_ends, given_short}
use Rattle.sheet_lines.proofs.put_refusals.Goals as goal

pub loop-k-init : goal.loop-k-init
loop-k-init c = search (rules, given_starts)

pub put_given-to-requires : goal.put_given-to-requires
put_given-to-requires c = search (rules, given_room)

pub loop-k-preserved : goal.loop-k-preserved
loop-k-preserved c = search (rules, given_goes_on)

pub returns : goal.returns
returns c = search (rules, given_ends, given_short)
