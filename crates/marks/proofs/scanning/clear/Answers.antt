use borrow.Author.Rules.{rules}
use Rattle.marks.proofs.Seeking.{clear_ends}
use Rattle.marks.proofs.scanning.clear.Goals as goal

pub returns : goal.returns
returns c = search (rules, clear_ends)
