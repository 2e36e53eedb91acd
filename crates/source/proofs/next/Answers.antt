-- `source::next` meets its contract: the tests passed say how the record goes on.
-- Assumes nothing.
use Rattle.std.proofs.Common.{rules}
use Rattle.source.proofs.Growing.{again, onward, first_heard}
use Rattle.source.proofs.next.Goals as goal

pub returns-then-fr_cnt_tx-last : goal.returns-then-fr_cnt_tx-last
returns-then-fr_cnt_tx-last c = search (rules, again)

pub returns-then-lane : goal.returns-then-lane
returns-then-lane c = search (rules, onward)

pub returns : goal.returns
returns c = search (rules, first_heard)
