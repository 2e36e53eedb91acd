-- `sheet_lines::put_given` meets its contract, by whether there is a frame.
-- Assumes nothing.
use borrow.Author.Rules.{rules}
use Rattle.sheet_lines.proofs.Putting.{given_line_lem, given_none}
use Rattle.sheet_lines.proofs.put_given.Goals as goal

pub returns-clause-put : goal.returns-clause-put
returns-clause-put c = search (rules, given_line_lem, given_none)
