use borrow.Author.Rules.{rules}
use Rattle.base.proofs.Fold.{up_starts, up_goes_on}
use Rattle.crc.specs.Crc.{crc16_of}
use Rattle.crc.proofs.Loop.{up_bytes}
use Rattle.crc.proofs.crc16_in.Goals as goal

pub loop-byte-init : goal.loop-byte-init
loop-byte-init c = search (rules, up_starts)

pub loop-byte-preserved : goal.loop-byte-preserved
loop-byte-preserved c = search (rules, up_goes_on)

pub returns : goal.returns
unfolding crc16_of
returns c = search (rules, up_bytes)
