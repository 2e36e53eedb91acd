use borrow.Author.Rules.{rules}
use Rattle.text.proofs.Sizes.{put_size}
use Rattle.walk.proofs.Keeping.{text_inside}
use Rattle.beesat_list.proofs.Rounds.{starts_counting, has_room, counts_on, closes}
use Rattle.beesat_list.proofs.list.Goals as goal

pub slice_bounds-write-end-2 : goal.slice_bounds-write-end-2
slice_bounds-write-end-2 c = search (rules, put_size)

pub loop-turn-init : goal.loop-turn-init
loop-turn-init c = search (rules, starts_counting)

pub read_on-filled-requires : goal.read_on-filled-requires
read_on-filled-requires c = search (rules, has_room)

pub send-requires : goal.send-requires
send-requires c = search (rules, text_inside)

pub loop-turn-preserved : goal.loop-turn-preserved
loop-turn-preserved c = search (rules, counts_on)

pub slice_bounds-write-end-then-over-2 : goal.slice_bounds-write-end-then-over-2
slice_bounds-write-end-then-over-2 c = search (rules, put_size)

pub close-n-requires-clause-counts_bound : goal.close-n-requires-clause-counts_bound
close-n-requires-clause-counts_bound c = search (rules, closes)
