use Rattle.std.proofs.Common.{rules}
use Rattle.packing.proofs.Digits.{bytes_start, bytes_room, bytes_short, bits_go_on, bits_end}
use Rattle.packing.proofs.put_bits.Goals as goal

pub loop-i-init : goal.loop-i-init
loop-i-init c = search (rules, bytes_start)

pub bounds-out-to : goal.bounds-out-to
bounds-out-to c = search (rules, bytes_room)

pub loop-i-preserved : goal.loop-i-preserved
loop-i-preserved c = search (rules, bits_go_on)

pub returns : goal.returns
returns c = search (rules, bits_end, bytes_short)
