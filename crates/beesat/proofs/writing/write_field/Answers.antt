-- `write_field` meets its contract: what is allowed is written, and nothing else.
-- Assumes nothing.
use borrow.Author.Rules.{rules}
use Rattle.beesat.proofs.Writable.{may_put}
use Rattle.beesat.proofs.writing.write_field.Goals as goal

pub put_field-requires : goal.put_field-requires
put_field-requires c = search (rules, may_put)
