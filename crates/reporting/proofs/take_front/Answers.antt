-- `reporting::take_front` meets its contract: the bits before the first that cannot be taken are accepted.
-- Assumes nothing.
use borrow.Author.Rules.{rules}
use Rattle.reporting.proofs.Fronts.{fits_size, front_size, front_room, takes_front}
use Rattle.reporting.proofs.take_front.Goals as goal

pub slice_bounds-first_no_bit-end : goal.slice_bounds-first_no_bit-end
slice_bounds-first_no_bit-end c = search (rules, fits_size)

pub slice_bounds-take-end : goal.slice_bounds-take-end
slice_bounds-take-end c = search (rules, front_size)

pub stop_after-requires : goal.stop_after-requires
stop_after-requires c = search (rules, front_room)

pub returns : goal.returns
returns c = search (rules, takes_front)
