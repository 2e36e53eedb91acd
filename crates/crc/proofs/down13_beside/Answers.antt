use borrow.Author.Rules.{rules}
use Rattle.crc.proofs.Adding.{beside_starts, left_lt, right_lt, right_size, beside_goes_on, beside_ends}
use Rattle.crc.proofs.down13_beside.Goals as goal

pub loop-i-init : goal.loop-i-init
loop-i-init c = search (rules, beside_starts)

pub byte13_in-started-requires : goal.byte13_in-started-requires
byte13_in-started-requires c = search (rules, left_lt)

pub byte13_in-added-requires : goal.byte13_in-added-requires
byte13_in-added-requires c = search (rules, right_lt)

pub loop-i-preserved : goal.loop-i-preserved
loop-i-preserved c = search (rules, beside_goes_on)

pub slice_bounds-down13-end : goal.slice_bounds-down13-end
slice_bounds-down13-end c = search (rules, right_size)

pub down13-requires : goal.down13-requires
down13-requires c = search (rules, right_lt)

pub returns : goal.returns
returns c = search (rules, beside_ends)
