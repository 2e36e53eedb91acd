use borrow.Author.Rules.{rules}
use Rattle.crc.proofs.TwoNumbers.{nine_starts, nine_next, nine_lt, nine_done}
use Rattle.crc.proofs.crc5_over.Goals as goal

pub loop-below-init : goal.loop-below-init
loop-below-init c = search (rules, nine_starts)

pub byte5_in-crc-requires-in-loop-below : goal.byte5_in-crc-requires-in-loop-below
byte5_in-crc-requires-in-loop-below c = search (rules, nine_lt)

pub loop-below-preserved : goal.loop-below-preserved
loop-below-preserved c = search (rules, nine_next)

pub returns : goal.returns
returns c = search (rules, nine_done)
