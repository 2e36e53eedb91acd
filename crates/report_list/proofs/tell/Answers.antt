-- `report_list::tell` is safe: what is written was put.
-- Assumes nothing.
use borrow.Author.Rules.{rules}
use Rattle.text.proofs.Sizes.{put_size}
use Rattle.report_list.proofs.tell.Goals as goal

pub slice_bounds-write-end-2 : goal.slice_bounds-write-end-2
slice_bounds-write-end-2 c = search (rules, put_size)

pub slice_bounds-write-end-4 : goal.slice_bounds-write-end-4
slice_bounds-write-end-4 c = search (rules, put_size)
