-- `put_text` meets its contract.
-- Assumes nothing.
use borrow.Author.Rules.{rules}
use Rattle.text.proofs.Copying.{copied}
use Rattle.text.proofs.put_text.Goals as goal

pub returns : goal.returns
returns c = search (rules, copied)
