-- `allowed` meets its contract: the tests passed say which check is the first that applies.
-- Assumes nothing.
use borrow.Author.Rules.{rules}
use Rattle.beesat.proofs.Writable.{field_there}
use Rattle.beesat.proofs.WriteChecks.{write_refused, gives_38, gives_38_idle, gives_29, may_write}
use Rattle.beesat.proofs.writing.allowed.Goals as goal

pub returns-in_err-frame : goal.returns-in_err-frame
returns-in_err-frame c = search (rules, write_refused)

pub returns-then-field-ge-FIELDS : goal.returns-then-field-ge-FIELDS
returns-then-field-ge-FIELDS c = search (rules, gives_38)

pub returns-then-is_idle : goal.returns-then-is_idle
returns-then-is_idle c = search (rules, gives_38_idle)

pub fits-requires : goal.fits-requires
fits-requires c = search (rules, field_there)

pub returns-then-not-fits : goal.returns-then-not-fits
returns-then-not-fits c = search (rules, gives_29)

pub returns : goal.returns
returns c = search (rules, may_write)
