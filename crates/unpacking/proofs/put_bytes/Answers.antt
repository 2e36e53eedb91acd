use borrow.Author.Rules.{rules}
use Rattle.unpacking.proofs.Lines.{starts, has_room, goes_on, ends, ends_short}
use Rattle.unpacking.proofs.put_bytes.Goals as goal

pub loop-byte-init : goal.loop-byte-init
loop-byte-init c = search (rules, starts)

pub put_digits-to-requires : goal.put_digits-to-requires
put_digits-to-requires c = search (rules, has_room)

pub loop-byte-preserved : goal.loop-byte-preserved
loop-byte-preserved c = search (rules, goes_on)

pub returns : goal.returns
returns c = search (rules, ends, ends_short)
