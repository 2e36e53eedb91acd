-- `source::missed` meets its contract: two differences of bytes, each right mod 256, are right mod 16.
-- Assumes nothing.
use Rattle.std.proofs.Common.{rules}
use Rattle.source.proofs.Growing.{missed_wraps}
use Rattle.source.proofs.missed.Goals as goal

pub returns : goal.returns
returns c = search (rules, missed_wraps)
