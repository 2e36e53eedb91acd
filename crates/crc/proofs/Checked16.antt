-- The 16-bit checksum's value for the nine digits "123456789", as catalogues of checksums print it (CRC-16/IBM-3740, "CCITT-FALSE").
-- Assumes nothing.
use mathlib.Core.Path.{◌≡◌, refl}
use mathlib.Core.List.{[], ◌∷◌, flat_map}
use Rattle.base.specs.Lists.{tabulate}
use Rattle.crc.specs.Crc.{crc_step, crc16_of}

pub nine_digits : crc16_of (0x31 ∷ 0x32 ∷ 0x33 ∷ 0x34 ∷ 0x35 ∷ 0x36 ∷ 0x37 ∷ 0x38 ∷ 0x39 ∷ []) ≡ 0x29B1
unfolding crc16_of crc_step tabulate flat_map
nine_digits = refl
