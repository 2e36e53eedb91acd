-- `take_bits` meets its contract.
-- Assumes nothing.
use borrow.Author.Rules.{rules}
use Rattle.reporting.proofs.Fronts.{taken_size, taken_room}
use Rattle.night.proofs.Turning.{moves_on}
use Rattle.night.proofs.Searcher.take_bits.Goals as goal

pub slice_bounds-report_all-end : goal.slice_bounds-report_all-end
slice_bounds-report_all-end c = search (rules, taken_size)

pub report_all-requires-clause-piece_bound : goal.report_all-requires-clause-piece_bound
report_all-requires-clause-piece_bound c = search (rules, taken_room)

pub returns : goal.returns
returns c =
    moves_on _ _ _ _ _ c.take_front-taking.ensures _ c.report_all.ensures _ c.in_ok-tally.was _ _ _ c.is_some-stopped.ensures c.after_read-next.ensures _ c.ended.ensures _
    c.in_ok-over.was
