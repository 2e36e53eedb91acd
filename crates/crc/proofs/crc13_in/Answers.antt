use borrow.Author.Rules.{rules}
use Rattle.crc.specs.Crc.{crc13_of}
use Rattle.crc.proofs.Adding.{sum_starts, sum_goes_on, sum_ends}
use Rattle.crc.proofs.crc13_in.Goals as goal

-- a payload that is short goes in as it is
pub returns-then-payload : goal.returns-then-payload
unfolding crc13_of
returns-then-payload c = search rules

pub loop-at-init : goal.loop-at-init
loop-at-init c = search (rules, sum_starts)

pub loop-at-preserved : goal.loop-at-preserved
loop-at-preserved c = search (rules, sum_goes_on)

pub returns : goal.returns
returns c = search (rules, sum_ends)
