use borrow.Author.Rules.{rules}
use Rattle.base.proofs.Fill.{fill_starts, fill_goes_on}
use Rattle.air.proofs.Gathering.{lane_lt, bit_lt, weight_light, lane_next, row_ends}
use Rattle.air.proofs.with_row.Goals as goal

pub loop-j-init : goal.loop-j-init
loop-j-init c = search (rules, fill_starts)

pub with_bit-requires : goal.with_bit-requires
with_bit-requires c = search (rules, lane_lt, bit_lt, weight_light)

pub loop-j-preserved : goal.loop-j-preserved
loop-j-preserved c = search (rules, fill_goes_on, lane_next)

pub returns : goal.returns
returns c = search (rules, row_ends)
