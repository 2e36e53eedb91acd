-- `source::summed` meets its contract: both lanes as they are, and what adds them.
-- Assumes nothing.
use Rattle.std.proofs.Common.{rules}
use Rattle.source.proofs.Lanes.{sums}
use Rattle.source.proofs.summed.Goals as goal

pub returns : goal.returns
returns c = search (rules, sums)
