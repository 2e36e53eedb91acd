-- `streams::send` meets its contract.
-- Assumes nothing.
use Rattle.std.proofs.Common.{rules}
use Rattle.streams.proofs.Reading.{first_size, sent_open}
use Rattle.streams.proofs.send.Goals as goal

pub slice_bounds-write-end : goal.slice_bounds-write-end
slice_bounds-write-end c = search (rules, first_size)

pub returns : goal.returns
returns c = search (rules, sent_open)
