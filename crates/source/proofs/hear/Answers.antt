-- `source::hear` meets its contract: the Caller bit says which lane is the next one, and the other is kept.
-- Assumes nothing.
use Rattle.std.proofs.Common.{rules}
use Rattle.source.proofs.Lanes.{hears_caller, hears_responder}
use Rattle.source.proofs.hear.Goals as goal

pub returns-then-header-eq-CALLER : goal.returns-then-header-eq-CALLER
returns-then-header-eq-CALLER c = search (rules, hears_caller)

pub returns : goal.returns
returns c = search (rules, hears_responder)
