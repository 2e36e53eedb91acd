-- `marks::scanning::unlike` meets its contract.
-- Assumes nothing.
use borrow.Author.Rules.{rules}
use Rattle.marks.proofs.Marker.{unlike_marker}
use Rattle.marks.proofs.scanning.unlike.Goals as goal

pub returns : goal.returns
returns c = search (rules, unlike_marker)
