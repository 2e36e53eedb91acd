-- `is_passed` meets its contract.
-- Assumes nothing.
use Rattle.std.proofs.Common.{rules}
use Rattle.packing.proofs.Lines.{passed_none, passed_some}
use Rattle.packing.proofs.is_passed.Goals as goal

pub returns-then-letters-eq0 : goal.returns-then-letters-eq0
returns-then-letters-eq0 c = search (rules, passed_none)

pub returns : goal.returns
returns c = search (rules, passed_some)
