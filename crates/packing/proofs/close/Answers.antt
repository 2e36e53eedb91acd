-- `close` meets its contract, by whether a line is wrong.
-- Assumes nothing.
use Rattle.std.proofs.Common.{rules}
use Rattle.packing.proofs.Closing.{last_short, ends_fine, ends_wrong}
use Rattle.packing.proofs.close.Goals as goal

pub returns-then-is_wrong : goal.returns-then-is_wrong
returns-then-is_wrong c = search (rules, ends_wrong)

pub pack_line-last-requires : goal.pack_line-last-requires
pack_line-last-requires c = search (rules, last_short)

pub returns : goal.returns
returns c = search (rules, ends_fine)
