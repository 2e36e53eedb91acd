-- `source::counted_number` meets its contract: past the last number stands 0.
-- Assumes nothing.
use Rattle.std.proofs.Common.{rules}
use Rattle.sign.proofs.Agreeing.{past_end}
use Rattle.source.specs.Counts.{counted}
use Rattle.source.proofs.counted_number.Goals as goal

pub returns-then-k-ge-REFUSAL_COUNTS : goal.returns-then-k-ge-REFUSAL_COUNTS
returns-then-k-ge-REFUSAL_COUNTS c = search (rules, past_end counted)
