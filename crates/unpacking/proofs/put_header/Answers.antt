-- `put_header` meets its contract, by whether all bytes are bits.
-- Assumes nothing.
use borrow.Author.Rules.{rules}
use Rattle.unpacking.proofs.Lines.{header_hex, header_bits_lem}
use Rattle.unpacking.proofs.put_header.Goals as goal

pub returns-then-first_no_bit-header : goal.returns-then-first_no_bit-header
returns-then-first_no_bit-header c = search (rules, header_hex)

pub returns : goal.returns
returns c = search (rules, header_bits_lem)
