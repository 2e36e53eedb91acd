-- `digits_from` meets its contract, by whether there is a space.
-- Assumes nothing.
use Rattle.std.proofs.Common.{rules}
use Rattle.packing.proofs.Lines.{from_space, from_end, end_inside}
use Rattle.packing.proofs.digits_from.Goals as goal

pub returns-then-space-letters : goal.returns-then-space-letters
returns-then-space-letters c = search (rules, from_space)

pub returns : goal.returns
returns c = search (rules, from_end, end_inside)
