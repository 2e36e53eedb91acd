use borrow.Author.Rules.{rules}
use Rattle.reporting.proofs.Telling.{tell_starts, tell_inside, tell_line, tell_ends, tell_over, tell_room, tell_less, tell_goes_on}
use Rattle.reporting.proofs.put_marks.Goals as goal

pub loop-out-init : goal.loop-out-init
loop-out-init c = search (rules, tell_starts)

pub overflow_sub-out : goal.overflow_sub-out
overflow_sub-out c = search (rules, tell_inside)

pub returns-in_default : goal.returns-in_default
returns-in_default c = search (rules, tell_over)

pub put_mark-line-requires-clause-tally_bound : goal.put_mark-line-requires-clause-tally_bound
put_mark-line-requires-clause-tally_bound c = search (rules, tell_room)

pub put_mark-line-requires-clause-line_room_in_bounds : goal.put_mark-line-requires-clause-line_room_in_bounds
put_mark-line-requires-clause-line_room_in_bounds c = search (rules, tell_line)

pub loop-out-smaller : goal.loop-out-smaller
loop-out-smaller c = search (rules, tell_less)

pub loop-out-preserved : goal.loop-out-preserved
loop-out-preserved c = search (rules, tell_goes_on)

pub returns : goal.returns
returns c = search (rules, tell_ends)
