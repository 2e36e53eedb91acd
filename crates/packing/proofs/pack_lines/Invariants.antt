-- `pack_lines` meets its contract. Invariant: the lines before the rest are packed, and their records are put.
-- Assumes nothing.
use Rattle.std.proofs.Common.{length}
use Rattle.packing.proofs.Scanning.{Scanning}
use Rattle.packing.proofs.pack_lines.Given as goal

abbrev pub invariant-loop-end : goal.invariant-loop-end
invariant-loop-end l = Scanning l.initial.lines l.piece l.initial.out l.at l.out l.lines l.rest l.to

abbrev pub decreases-loop-end : goal.decreases-loop-end
decreases-loop-end l = length l.rest
