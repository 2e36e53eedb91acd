-- `put_counts` stays within the reply. Invariant: as many counts are put as were passed.
-- Assumes nothing.
use mathlib.Core.Path.{◌≡◌}
use Prim.Native.Nat.{◌+◌, ◌*◌, ◌≤◌}
use Rattle.source.specs.Counts.{refusal_counts}
use Rattle.sheet_vectors.proofs.sheets.put_counts.Given as goal

abbrev pub invariant-loop-count : goal.invariant-loop-count
invariant-loop-count l = (l.count-index ≤ refusal_counts) × (l.next ≡ l.at + 4 * l.count-index)
