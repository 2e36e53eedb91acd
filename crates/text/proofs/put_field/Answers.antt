-- `put_field` meets its contract: the text goes where the number ends.
-- Assumes nothing.
use borrow.Author.Rules.{rules}
use Rattle.text.proofs.Laid.{put_then}
use Rattle.text.proofs.put_field.Goals as goal

pub returns : goal.returns
returns c = search (rules, put_then)
