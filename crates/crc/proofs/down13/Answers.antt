use borrow.Author.Rules.{rules}
use lib.Dec.{lit<}
use Rattle.base.proofs.Fold.{down_starts, down_goes_on}
use Rattle.crc.specs.Crc.{poly13}
use Rattle.crc.proofs.Loop.{down_bytes, down_lt}
use Rattle.crc.proofs.down13.Goals as goal

pub loop-i-init : goal.loop-i-init
loop-i-init c = search (rules, down_starts)

pub byte13_in-crc-requires : goal.byte13_in-crc-requires
byte13_in-crc-requires c = search (rules, down_lt 13 poly13 (lit< tt))

pub loop-i-preserved : goal.loop-i-preserved
loop-i-preserved c = search (rules, down_goes_on)

pub returns : goal.returns
returns c = search (rules, down_bytes)
