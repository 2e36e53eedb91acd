-- `put_header` meets its contract, by its length.
-- Assumes nothing.
use Rattle.std.proofs.Common.{rules}
use Rattle.packing.proofs.Putting.{hex_header, put_hex_header, put_bit_header}
use Rattle.packing.proofs.put_header.Goals as goal

pub put_hex-requires : goal.put_hex-requires
put_hex-requires c = search (rules, hex_header)

pub returns-then-header-eq-HEADER_DIGITS : goal.returns-then-header-eq-HEADER_DIGITS
returns-then-header-eq-HEADER_DIGITS c = search (rules, put_hex_header)

pub returns : goal.returns
returns c = search (rules, put_bit_header)
