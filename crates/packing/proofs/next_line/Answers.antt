-- `next_line` meets its contract: the tests passed say what stands at the front.
-- Assumes nothing.
use Rattle.std.proofs.Common.{rules}
use Rattle.packing.proofs.Fronts.{next_long, next_whole, next_unended}
use Rattle.packing.proofs.next_line.Goals as goal

pub returns-then-end-gt-LONGEST_LINE : goal.returns-then-end-gt-LONGEST_LINE
returns-then-end-gt-LONGEST_LINE c = search (rules, next_long)

pub returns-then-end-rest : goal.returns-then-end-rest
returns-then-end-rest c = search (rules, next_whole)

pub returns : goal.returns
returns c = search (rules, next_unended)
