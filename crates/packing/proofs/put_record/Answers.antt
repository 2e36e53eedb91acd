-- `put_record` meets its contract: each part goes where the one before it ends.
-- Assumes nothing.
use Rattle.std.proofs.Common.{rules}
use Rattle.packing.proofs.Putting.{header_is_fine, payload_digits, few_bytes, put_parts}
use Rattle.packing.proofs.put_record.Goals as goal

pub put_size-a-requires : goal.put_size-a-requires
put_size-a-requires c = search (rules, few_bytes)

pub put_header-b-requires : goal.put_header-b-requires
put_header-b-requires c = search (rules, header_is_fine)

pub put_hex-requires : goal.put_hex-requires
put_hex-requires c = search (rules, payload_digits)

pub returns : goal.returns
returns c = search (rules, put_parts)
