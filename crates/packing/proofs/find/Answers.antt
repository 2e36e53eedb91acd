use Rattle.std.proofs.Common.{rules}
use Rattle.packing.proofs.Digits.{find_starts, find_goes_on, find_stops, find_ends}
use Rattle.packing.proofs.find.Goals as goal

pub loop-i-init : goal.loop-i-init
loop-i-init c = search (rules, find_starts)

pub returns-then-letters-i : goal.returns-then-letters-i
returns-then-letters-i c = search (rules, find_stops)

pub loop-i-preserved : goal.loop-i-preserved
loop-i-preserved c = search (rules, find_goes_on)

pub returns : goal.returns
returns c = search (rules, find_ends)
