-- CRC5 of a header, whose 70 bits are one number: header bit 0 is the most significant.
-- Assumes nothing.
use Rattle.std.specs.Prelude.{Bool, not, List, [], ◌∷◌, reverse, ◌⊎◌, ℕ, ◌+◌, ◌-◌, ◌*◌, ◌/◌, ◌%◌, ◌^◌, ◌≤◌, ◌<◌, eqb, set}
use Rattle.base.specs.declared.Edition.{Edition}
use Rattle.base.specs.declared.Edition.TheVariants.{Flown, Corrected}
use Rattle.base.specs.Lists.{tabulate}
use Rattle.base.specs.Parts.{parts_of, joined}
use Rattle.crc.specs.Crc.{byte_bits, crc_of, bits_of_bytes}

-- "70 bits, numbered from 0"
abbrev pub header_width : ℕ
header_width = 70

-- header bit k
abbrev pub header_bit : ℕ → ℕ → ℕ
header_bit n k = n / 2 ^ (header_width - 1 - k) % 2

-- whether two headers differ in bit k
abbrev pub changed_in : ℕ → ℕ → ℕ → Bool
changed_in n m k = not (eqb (header_bit n k) (header_bit m k))

-- "CRC5: polynomial 0x15 (x^5 implied), start 0x1F, no final change."
abbrev pub poly5 : ℕ
poly5 = 0x15

abbrev pub start5 : ℕ
start5 = 0x1F

-- "Header bits 0 to 64 followed by 1011011 .."
abbrev pub filling : ℕ
filling = 0b1011011

-- CRC5's own five bits give way to the seven of the filling
unfoldable pub message : ℕ → ℕ
message n = n / 2 ^ 5 * 2 ^ 7 + filling

-- ".. make nine bytes": byte i has 8 - i below it
unfoldable pub nine_bytes : ℕ → List ℕ
nine_bytes n = tabulate 9 (λ i. message n / 2 ^ (byte_bits * (8 - i)) % 2 ^ byte_bits)

-- "they go in from the last byte to the first, each most significant bit first": CRC5 of the header bits that count
unfoldable pub crc5_over : ℕ → ℕ
crc5_over counted = crc_of 5 poly5 start5 (bits_of_bytes (reverse (nine_bytes counted)))

-- the header in three parts: bits 0 to 31, bits 32 to 35, bits 36 to 69
abbrev pub flown_widths : List ℕ
flown_widths = 32 ∷ 4 ∷ 34 ∷ []

-- "Flown rule: the S-NET satellites lose part of byte 4, so header bits 32 to 35 (low two bits of AiTypeDst, and DfcId)
-- count as zero in CRC5." So part 1 of the three, from 0, is set to 0. The rest of byte 4 is used: "The printed listing
-- shows no break after byte 4; that is a misprint, and byte 4 is used."
unfoldable pub counted_flown : ℕ → ℕ
counted_flown n = joined flown_widths (set (parts_of flown_widths n) 1 0)

-- the header bits that count: "The second edition corrects CRC5: bits 32 to 35 count like the others."
abbrev pub counting_bits : Edition → ℕ → ℕ
counting_bits Flown n = counted_flown n
counting_bits Corrected n = n

unfoldable pub crc5_of : Edition → ℕ → ℕ
crc5_of edition n = crc5_over (counting_bits edition n)

-- that header bit k counts: under the flown edition all but 32 to 35 do
abbrev pub Counts : Edition → ℕ → Type 0
Counts Flown k = (k < 32) ⊎ (36 ≤ k)
Counts Corrected k = Unit {0}

-- and that it does not
abbrev pub Lost : Edition → ℕ → Type 0
Lost Flown k = (32 ≤ k) × (k < 36)
Lost Corrected k = ⊥
