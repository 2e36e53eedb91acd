use Rattle.std.proofs.Common.{rules}
use Rattle.packing.proofs.Digits.{bytes_start, hex_room, bytes_short, high_digit, low_digit, hex_goes_on, hex_ends}
use Rattle.packing.proofs.put_hex.Goals as goal

pub loop-k-init : goal.loop-k-init
loop-k-init c = search (rules, bytes_start)

pub byte_of-requires : goal.byte_of-requires
byte_of-requires c = search (rules, high_digit, low_digit)

pub bounds-out-to : goal.bounds-out-to
bounds-out-to c = search (rules, hex_room)

pub loop-k-preserved : goal.loop-k-preserved
loop-k-preserved c = search (rules, hex_goes_on)

pub returns : goal.returns
returns c = search (rules, hex_ends, bytes_short)
