-- `source::total` meets its contract. Invariant: the counts of the refusals before k are in the sum.
-- Assumes nothing.
use Rattle.std.proofs.Common.{get_or}
use Rattle.source.specs.Records.{count_limit}
use Rattle.source.specs.Counts.{refusal_counts}
use Rattle.source.proofs.Totals.{Summed}
use Rattle.source.proofs.total.Given as goal

abbrev pub invariant-loop-count : goal.invariant-loop-count
invariant-loop-count l = Summed refusal_counts count_limit (λ k. get_or l.fn.counts k 0) l.count-index l.sum
