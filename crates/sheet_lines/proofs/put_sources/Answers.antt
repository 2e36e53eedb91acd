use borrow.Author.Rules.{rules}
use Rattle.sheet_lines.proofs.Loops.{heard_starts, heard_place, heard_room, heard_goes_on, heard_ends, heard_short}
use Rattle.sheet_lines.proofs.put_sources.Goals as goal

pub loop-k-init : goal.loop-k-init
loop-k-init c = search (rules, heard_starts)

pub offset_bounds-sheet-k : goal.offset_bounds-sheet-k
offset_bounds-sheet-k c = search (rules, heard_place)

pub bounds-sheet-k : goal.bounds-sheet-k
bounds-sheet-k c = search (rules, heard_place)

pub overflow_cast-k : goal.overflow_cast-k
overflow_cast-k c = search (rules, heard_place)

pub put_heard-to-requires : goal.put_heard-to-requires
put_heard-to-requires c = search (rules, heard_room)

pub loop-k-preserved : goal.loop-k-preserved
loop-k-preserved c = search (rules, heard_goes_on)

pub returns : goal.returns
returns c = search (rules, heard_ends, heard_short)
