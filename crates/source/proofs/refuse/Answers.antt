-- `source::refuse` meets its contract: the number's count is one more, and the others are kept; or the number has none.
-- Assumes nothing.
use Rattle.std.proofs.Common.{rules}
use Rattle.source.proofs.Counts.{refuses, refuses_not}
use Rattle.source.proofs.refuse.Goals as goal

pub returns-then-k-ge-REFUSAL_COUNTS : goal.returns-then-k-ge-REFUSAL_COUNTS
returns-then-k-ge-REFUSAL_COUNTS c = search (rules, refuses_not)

pub returns : goal.returns
returns c = search (rules, refuses)
