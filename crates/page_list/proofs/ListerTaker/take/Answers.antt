-- What `page_listing` leaves of a piece leaves room to read on.
-- Assumes nothing.
use Rattle.std.proofs.Common.{rules}
use Rattle.page_list.proofs.Rounds.{lists}
use Rattle.page_list.proofs.ListerTaker.take.Goals as goal

pub returns-clause-taken_up : goal.returns-clause-taken_up
returns-clause-taken_up c = search (rules, lists)
