-- `sheet::Sheet::accepted` meets its contract. Invariant: the frames of the sources before this one are in the sum.
-- Assumes nothing.
use Rattle.source.proofs.Totals.{FramesSummed}
use Rattle.sheet.proofs.Sheet.accepted.Given as goal

abbrev pub invariant-loop-source : goal.invariant-loop-source
invariant-loop-source g l = FramesSummed g.row.N l.self.sources l.source-index l.sum
