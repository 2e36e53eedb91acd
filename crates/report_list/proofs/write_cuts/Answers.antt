use borrow.Author.Rules.{rules}
use Rattle.text.proofs.Sizes.{put_size}
use Rattle.report_list.proofs.Rounds.{starts_writing, fewer, writes_on}
use Rattle.report_list.proofs.write_cuts.Goals as goal

pub loop-from-init : goal.loop-from-init
loop-from-init c = search (rules, starts_writing)

pub slice_bounds-write-end-in-loop-from : goal.slice_bounds-write-end-in-loop-from
slice_bounds-write-end-in-loop-from c = search (rules, put_size)

pub loop-from-smaller : goal.loop-from-smaller
loop-from-smaller c = search (rules, fewer)

pub loop-from-preserved : goal.loop-from-preserved
loop-from-preserved c = search (rules, writes_on)
