-- The paper's marked examples, as a table.
-- Assumes nothing.
use Rattle.std.specs.Prelude.{◌≡◌, List, Option, [], ◌∷◌, ℕ, ◌^◌, get_or}
use Rattle.base.specs.declared.Edition.{Edition}
use Rattle.base.specs.declared.Edition.TheVariants.{Flown, Corrected}
use Rattle.word.specs.declared.Repaired.{Repaired}
use Rattle.word.specs.Repairs.{found, beyond, repair_of}
use Rattle.crc.specs.Crc.{crc13_of}
use Rattle.crc.specs.Crc5.{header_bit, crc5_of}
use Rattle.air.specs.Air.{air_of}
use Rattle.header.specs.Fields.{coded_of}
use Rattle.source.specs.Records.{missed_of}

-- a row of the table: what is worked out, and what it has to be
pub data Example : Type 0 where
  word_becomes : ℕ → Option Repaired → Example
  bit_travels_at : ℕ → ℕ → Example
  crc5_of_lem : Edition → ℕ → ℕ → Example
  crc13_of_lem : List ℕ → ℕ → Example
  counters_miss : ℕ → ℕ → ℕ → Example

abbrev pub Holds : Example → Type 0
Holds (word_becomes w answer) = repair_of w ≡ answer
Holds (bit_travels_at k m) = (n : ℕ) → get_or (air_of (coded_of n)) m 0 ≡ header_bit n k
Holds (crc5_of_lem edition bits crc) = crc5_of edition bits ≡ crc
Holds (crc13_of_lem payload crc) = crc13_of payload ≡ crc
Holds (counters_miss last new missed) = missed_of last new ≡ missed

abbrev pub AllHold : List Example → Type 0
AllHold [] = Unit {0}
AllHold (e ∷ es) = Holds e × AllHold es

abbrev pub examples : List Example
examples =
    -- "word 0 stays, 0 flips; 0x537 and 0x7FFF stay; 0x0007 becomes 0 with 3; 0x0017 becomes 0x537 with 3; 0x000F is beyond repair",
    -- each with its flip pattern
    word_becomes 0 (found 0 0)
    ∷ word_becomes 0x537 (found 0x537 0)
    ∷ word_becomes 0x7FFF (found 0x7FFF 0)
    ∷ word_becomes 0x0007 (found 0 0x0007)
    ∷ word_becomes 0x0017 (found 0x537 0x0520)
    ∷ word_becomes 0x000F beyond
    -- "header bit 0 travels at air bit 196, bit 69 at 153"
    ∷ bit_travels_at 0 196
    ∷ bit_travels_at 69 153
    -- "CRC5 of 65 zero bits is 6, and 6 again with only bit 32 set": header bit 32 is bit 37 of the 70-bit number
    ∷ crc5_of_lem Flown 0 6
    ∷ crc5_of_lem Flown (2 ^ 37) 6
    -- under the corrected edition that bit counts
    ∷ crc5_of_lem Corrected 0 6
    ∷ crc5_of_lem Corrected (2 ^ 37) 28
    -- "CRC13 of nothing is 0x1FFF, of FF is 0x1F00, of FF FF is 0x13D4"
    ∷ crc13_of_lem [] 0x1FFF
    ∷ crc13_of_lem (0xFF ∷ []) 0x1F00
    ∷ crc13_of_lem (0xFF ∷ 0xFF ∷ []) 0x13D4
    -- "counter 14 then 1 misses 2, 15 then 0 misses 0"
    ∷ counters_miss 14 1 2
    ∷ counters_miss 15 0 0
    ∷ []
