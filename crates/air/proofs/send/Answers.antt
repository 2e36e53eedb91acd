use borrow.Author.Rules.{rules}
use Rattle.base.proofs.Fill.{fill_starts, fill_goes_on, fill_ends}
use Rattle.air.specs.Air.{air_bit, air_of}
use Rattle.air.proofs.send.Goals as goal

pub loop-n-init : goal.loop-n-init
loop-n-init c = search (rules, fill_starts)

pub loop-n-preserved : goal.loop-n-preserved
unfolding air_bit
loop-n-preserved c = search (rules, fill_goes_on)

pub returns : goal.returns
unfolding air_of
returns c = search (rules, fill_ends)
