-- `marks::scanning::Joined::edge` meets its contract. Invariant: the elements before i are filled.
-- Assumes nothing.
use mathlib.Core.List.{◌++◌}
use Rattle.base.proofs.Fill.{Filled}
use Rattle.marks.specs.Scanning.{edge_bits}
use Rattle.marks.proofs.Joining.{element_of}
use Rattle.marks.proofs.scanning.Joined.edge.Given as goal

abbrev pub invariant-loop-i : goal.invariant-loop-i
invariant-loop-i l = Filled (element_of (l.self.kept.now ++ l.self.piece.now)) edge_bits l.initial.bits l.i l.bits
