use borrow.Author.Rules.{rules}
use Rattle.marks.proofs.Marker.{alike_stops, alike_ends}
use Rattle.marks.proofs.scanning.is_marker.Goals as goal

pub returns-then-bits-k : goal.returns-then-bits-k
returns-then-bits-k c = search (rules, alike_stops)

pub returns : goal.returns
returns c = search (rules, alike_ends)
