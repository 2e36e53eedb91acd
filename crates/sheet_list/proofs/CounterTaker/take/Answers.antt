-- What `sheet_listing` leaves of a piece leaves room to read on.
-- Assumes nothing.
use Rattle.std.proofs.Common.{rules}
use Rattle.sheet_list.proofs.Rounds.{counts}
use Rattle.sheet_list.proofs.CounterTaker.take.Goals as goal

pub returns-clause-taken_up : goal.returns-clause-taken_up
returns-clause-taken_up c = search (rules, counts)
