-- `search_lines::put_stop` meets its contract, by the cases of the stop.
-- Assumes nothing.
use borrow.Author.Rules.{rules}
use Rattle.lines.proofs.Searching.{stop_nowhere, stop_stopped}
use Rattle.search_lines.proofs.put_stop.Goals as goal

pub returns-in-None-clause-put : goal.returns-in-None-clause-put
returns-in-None-clause-put c = search (rules, stop_nowhere, stop_stopped)
