-- `crc::byte_in` meets its contract: the eight highest bits and the byte are a number of eight bits, so it names a step.
-- Assumes nothing.
use Prim.Native.Nat.{◌/◌, ◌<◌, ◌^◌}
use borrow.Author.Rules.{rules}
use native.Mathlib.Omega.{arith}
use lib.Bits.{xor_lt}
use Rattle.crc.specs.Crc.{byte_bits}
use Rattle.crc.proofs.byte_in.Goals as goal

pub bounds-steps-top : goal.bounds-steps-top
bounds-steps-top g c =
    let top : c.args.crc / g.row.LOW < 2 ^ byte_bits = search rules in
    let byte : c.args.byte < 2 ^ byte_bits = omega arith in
    xor_lt byte_bits (c.args.crc / g.row.LOW) c.args.byte top byte
