-- The steps by which a byte goes into a checksum at once, in place of its eight bits one after the other.
-- Assumes nothing.
use Rattle.std.specs.Prelude.{List, ℕ, ◌*◌, ◌/◌, ◌%◌, ◌^◌, get_or}
use Rattle.std.specs.Int.Bits.{bit_xor}
use Rattle.base.specs.Lists.{tabulate}
use Rattle.crc.specs.Crc.{byte_bits, bits_of, crc_of, poly13, poly16}
use Rattle.crc.specs.Crc5.{poly5}

-- the step of a byte: what its eight bits make of a checksum of 0
unfoldable pub step_of : ℕ → ℕ → ℕ → ℕ
step_of width poly byte = crc_of width poly 0 (bits_of byte_bits byte)

-- "a table of 256 steps"
unfoldable pub steps_of : ℕ → ℕ → List ℕ
steps_of width poly = tabulate 256 (step_of width poly)

abbrev pub steps13 : List ℕ
steps13 = steps_of 13 poly13

abbrev pub steps16 : List ℕ
steps16 = steps_of 16 poly16

abbrev pub steps5 : List ℕ
steps5 = steps_of 5 poly5

-- a byte by a table, in a checksum whose bits below its eight highest count up to low: those eight and the byte choose the step,
-- and the bits below move up
abbrev pub by_step : ℕ → List ℕ → ℕ → ℕ → ℕ
by_step low steps crc byte = bit_xor (get_or steps (bit_xor (crc / low) byte) 0) (crc % low * 2 ^ byte_bits)
