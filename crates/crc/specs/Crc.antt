-- Checksums: one rule over width, polynomial and start, on a list of bits. CRC13 of a payload; the 16-bit checksum of CCSDS.
-- Assumes nothing.
use Rattle.std.specs.Prelude.{cond, ℕ, ◌-◌, ◌*◌, ◌/◌, ◌%◌, ◌^◌, eqb}
use mathlib.Core.List.{List, foldl, flat_map, reverse}
use Rattle.std.specs.Int.Bits.{bit_xor}
use Rattle.base.specs.Lists.{tabulate}

-- the w bits of n, "most significant bit first"
abbrev pub bits_of : ℕ → ℕ → List ℕ
bits_of w n = tabulate w (λ t. n / 2 ^ (w - 1 - t) % 2)

abbrev pub byte_bits : ℕ
byte_bits = 8

-- the bits of bytes, the first byte first, "each most significant bit first"
abbrev pub bits_of_bytes : List ℕ → List ℕ
bits_of_bytes bytes = flat_map (bits_of byte_bits) bytes

-- one bit into a checksum: it moves up by one within its width, and the polynomial (x^width implied) is added where the
-- top bit differs from the data bit. Table 3 of document 001, to the letter, adds it where either of the two is set;
-- the marked examples decide for "differs".
unfoldable pub crc_step : ℕ → ℕ → ℕ → ℕ → ℕ
crc_step width poly crc bit =
    let half = 2 ^ (width - 1) in
    let moved = crc % half * 2 in
    cond (eqb (crc / half) bit) moved (bit_xor moved poly)

-- the bits one after the other
abbrev pub crc_of : ℕ → ℕ → ℕ → List ℕ → ℕ
crc_of width poly start bits = foldl (crc_step width poly) start bits

-- "CRC13: polynomial 0x1CF5 (x^13 implied), start 0x1FFF, no final change."
abbrev pub poly13 : ℕ
poly13 = 0x1CF5

abbrev pub start13 : ℕ
start13 = 0x1FFF

-- "Payload bytes from the last to the first, each most significant bit first."
unfoldable pub crc13_of : List ℕ → ℕ
crc13_of payload = crc_of 13 poly13 start13 (bits_of_bytes (reverse payload))

-- "the CCSDS rule: polynomial 0x1021, start 0xFFFF" (x^16 implied, no final change)
abbrev pub poly16 : ℕ
poly16 = 0x1021

abbrev pub start16 : ℕ
start16 = 0xFFFF

-- bytes from the first to the last, each most significant bit first
unfoldable pub crc16_of : List ℕ → ℕ
crc16_of bytes = crc_of 16 poly16 start16 (bits_of_bytes bytes)
