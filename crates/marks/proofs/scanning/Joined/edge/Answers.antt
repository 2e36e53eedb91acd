use borrow.Author.Rules.{rules}
use Rattle.base.proofs.Fill.{fill_starts, fill_goes_on, fill_whole}
use Rattle.marks.specs.Scanning.{edge_of}
use Rattle.marks.proofs.scanning.Joined.edge.Goals as goal

pub loop-i-init : goal.loop-i-init
loop-i-init c = search (rules, fill_starts)

pub loop-i-preserved : goal.loop-i-preserved
loop-i-preserved c = search (rules, fill_goes_on)

pub returns : goal.returns
unfolding edge_of
returns c = search (rules, fill_whole)
