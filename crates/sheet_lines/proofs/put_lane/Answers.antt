-- `sheet_lines::put_lane` meets its contract, by whether the lane was heard.
-- Assumes nothing.
use borrow.Author.Rules.{rules}
use Rattle.sheet_lines.proofs.Putting.{lane_heard, lane_none}
use Rattle.sheet_lines.proofs.put_lane.Goals as goal

pub returns-then-lane-clause-put : goal.returns-then-lane-clause-put
returns-then-lane-clause-put c = search (rules, lane_heard, lane_none)

pub returns-clause-put : goal.returns-clause-put
returns-clause-put c = search (rules, lane_heard, lane_none)
