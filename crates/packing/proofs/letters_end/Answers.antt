-- `letters_end` meets its contract, by the last letter.
-- Assumes nothing.
use Rattle.std.proofs.Common.{rules}
use Rattle.packing.proofs.Lines.{end_none, end_return, end_other}
use Rattle.packing.proofs.letters_end.Goals as goal

pub returns-then-n-eq0 : goal.returns-then-n-eq0
returns-then-n-eq0 c = search (rules, end_none)

pub returns-then-line-n-eq13 : goal.returns-then-line-n-eq13
returns-then-line-n-eq13 c = search (rules, end_return)

pub returns : goal.returns
returns c = search (rules, end_other)
