-- `judge_header` meets its contract: the tests passed say what is wrong.
-- Assumes nothing.
use Rattle.std.proofs.Common.{rules}
use Rattle.packing.proofs.Judging.{header_no_bit, header_bits_lem, header_no_digit, header_digits_lem, header_none}
use Rattle.packing.proofs.judge_header.Goals as goal

pub returns-then-bits-n : goal.returns-then-bits-n
returns-then-bits-n c = search (rules, header_no_bit)

pub returns-then-n-eq-AIR_BITS : goal.returns-then-n-eq-AIR_BITS
returns-then-n-eq-AIR_BITS c = search (rules, header_bits_lem)

pub returns-then-digits-n : goal.returns-then-digits-n
returns-then-digits-n c = search (rules, header_no_digit)

pub returns-then-n-eq-HEADER_DIGITS : goal.returns-then-n-eq-HEADER_DIGITS
returns-then-n-eq-HEADER_DIGITS c = search (rules, header_digits_lem)

pub returns : goal.returns
returns c = search (rules, header_none)
