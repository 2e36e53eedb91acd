-- `put_payload` meets its contract, by whether there is one.
-- Assumes nothing.
use borrow.Author.Rules.{rules}
use Rattle.unpacking.proofs.Lines.{payload_none, payload_some}
use Rattle.unpacking.proofs.put_payload.Goals as goal

pub returns-then-payload-eq0-clause-put : goal.returns-then-payload-eq0-clause-put
returns-then-payload-eq0-clause-put c = search (rules, payload_none, payload_some)

pub returns-clause-put : goal.returns-clause-put
returns-clause-put c = search (rules, payload_none, payload_some)
