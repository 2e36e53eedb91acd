-- `marks::scanning::is_marker` meets its contract. Invariant: the elements before i are the marker's.
-- Assumes nothing.
use Rattle.marks.proofs.Marker.{Alike}
use Rattle.marks.proofs.scanning.is_marker.Given as goal

abbrev pub invariant-loop-i : goal.invariant-loop-i
invariant-loop-i l = Alike l.bits l.k l.i
