-- `source::tally` meets its contract: each count is what `add` answers.
-- Assumes nothing.
use Rattle.std.proofs.Common.{rules}
use Rattle.source.proofs.Growing.{tallied}
use Rattle.source.proofs.tally.Goals as goal

pub returns : goal.returns
returns c = search (rules, tallied)
